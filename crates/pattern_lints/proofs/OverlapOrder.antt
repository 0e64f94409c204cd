-- Overlaps sorted by their keys, each kept once, ascend.
use Rattle.std.proofs.Common.{◌≡◌, ◌<◌, ◌⊎◌, inl, inr, ℕ, zero, suc, ℤ, Bool, true, false, ◌&&◌, ◌||◌, cond, List, [], ◌∷◌, length, get_or, slice_get, Some, refl, sym, ap, subst, ◌∙◌, arith, add-one, nat_lt, nat_eq, rules}
use Rattle.std.specs.Prelude.{⊤, IsTrue, ◌↔◌, int_le, int_lt}
use Rattle.std.specs.List.{All, Contains, dedup, dedup_from}
use Rattle.std.specs.List.Sorted.{IsPermutation, IsSortedByKey}
use Rattle.std.specs.Ordering.{nat_cmp, is_lt, ordering_then}
use Rattle.std.specs.declared.cmp.Ordering.{Ordering}
use Rattle.std.proofs.lemmas.Int.{ints}
use Rattle.std.proofs.lemmas.List.Elements.{All-nil, All-cons, All-head, All-tail}
use Rattle.std.proofs.lemmas.List.Filters.{All-dedup}
use Rattle.std.proofs.lemmas.List.Sorted.{IsPermutation-sym, IsPermutation-map, Contains-permutation}
use Rattle.match_model.specs.Overlaps.{MOverlap, overlap_before}
use Rattle.range_split.specs.Numbers.{signed, num_value}
use Rattle.witnesses.specs.declared.judgement.Overlap.{Overlap}
use Rattle.witnesses.specs.contracts.judgement.OverlapPartialEq.TheImpl as overlap_eq
use Rattle.pattern_lints.specs.Views.{plain_overlap, plain_overlaps, IsInOrder}
use Rattle.pattern_lints.proofs.SpotLaws.{first-in, later-in, first-or-later}
use Rattle.pattern_lints.proofs.EndOrder.{number_cmp, number_key, number-order, by-first, before-by, by-before, true-is, is-true, le-trans}

-- ---- equal overlaps

same-overlap : (a b : Overlap) → overlap_eq.ghosts.eq a b ≡ true → plain_overlap a ≡ plain_overlap b
same-overlap a b h = search (rules, h)

-- a number has one sign and size, since zero is not negative
one-number : (a b : Bool) (m n : ℕ) → (m ≡ 0 → a ≡ false) → (n ≡ 0 → b ≡ false) → signed a m ≡ signed b n → (a ≡ b) × (m ≡ n)
one-number false false m n h k e = (refl, cc)
one-number true true (suc m) (suc n) h k e = (refl, let f : m ≡ n = cc in ap suc f)
one-number true b zero n h k e = let z : true ≡ false = h refl in cc
one-number a true m zero h k e = let z : true ≡ false = k refl in cc
one-number true false (suc m) n h k e = cc
one-number false true m (suc n) h k e = cc

equal-overlap : (a b : Overlap) → plain_overlap a ≡ plain_overlap b → overlap_eq.ghosts.eq a b ≡ true
equal-overlap a b h =
    let e = one-number a.value.negative b.value.negative a.value.size b.value.size a.value.zero_is_not_negative b.value.zero_is_not_negative (ap (λ (o : MOverlap). o.number) h) in
    let first : a.first ≡ b.first = ap (λ (o : MOverlap). o.first) h in
    let second : a.second ≡ b.second = ap (λ (o : MOverlap). o.second) h in
    let negative : a.value.negative ≡ b.value.negative = e.0 in
    let size : a.value.size ≡ b.value.size = e.1 in
    search (rules, first, second, negative, size)

abbrev pub same : Overlap → Overlap → Bool
same a b = overlap_eq.ghosts.eq a b

-- ---- what is kept

-- a list of `k` and what the test keeps behind it, or of what is kept without `x`
abbrev Kept : Bool → (k x : Overlap) → List Overlap → List Overlap
Kept b k x xs = cond b (dedup_from same k xs) (k ∷ dedup_from same x xs)

kept-step : (b : Bool) (k x : Overlap) (xs : List Overlap) (o : MOverlap) → (Contains (plain_overlaps (dedup_from same k xs)) o → Contains (plain_overlaps (k ∷ xs)) o) →
    (Contains (plain_overlaps (dedup_from same x xs)) o → Contains (plain_overlaps (x ∷ xs)) o) → Contains (plain_overlaps (Kept b k x xs)) o → Contains (plain_overlaps (k ∷ x ∷ xs)) o
kept-step true k x xs o f g h = elim (first-or-later (plain_overlap k) (plain_overlaps xs) o (f h)) [
  | inl e ↦ subst (Contains (plain_overlap k ∷ plain_overlap x ∷ plain_overlaps xs)) e (first-in (plain_overlap k) (plain_overlap x ∷ plain_overlaps xs))
  | inr r ↦ later-in (plain_overlap k) (plain_overlap x ∷ plain_overlaps xs) o (later-in (plain_overlap x) (plain_overlaps xs) o r)
]
kept-step false k x xs o f g h = elim (first-or-later (plain_overlap k) (plain_overlaps (dedup_from same x xs)) o h) [
  | inl e ↦ subst (Contains (plain_overlap k ∷ plain_overlap x ∷ plain_overlaps xs)) e (first-in (plain_overlap k) (plain_overlap x ∷ plain_overlaps xs))
  | inr r ↦ later-in (plain_overlap k) (plain_overlap x ∷ plain_overlaps xs) o (g r)
]

kept-from : (xs : List Overlap) (k : Overlap) (o : MOverlap) → Contains (plain_overlaps (dedup_from same k xs)) o → Contains (plain_overlaps (k ∷ xs)) o
kept-from [] k o h = h
kept-from (x ∷ xs) k o h = kept-step (same x k) k x xs o (kept-from xs k o) (kept-from xs x o) h

first-step : (b : Bool) (k x : Overlap) (xs : List Overlap) → Contains (plain_overlaps (dedup_from same k xs)) (plain_overlap k) → Contains (plain_overlaps (Kept b k x xs)) (plain_overlap k)
first-step true k x xs h = h
first-step false k x xs h = first-in (plain_overlap k) (plain_overlaps (dedup_from same x xs))

first-kept : (xs : List Overlap) (k : Overlap) → Contains (plain_overlaps (dedup_from same k xs)) (plain_overlap k)
first-kept [] k = first-in (plain_overlap k) []
first-kept (x ∷ xs) k = first-step (same x k) k x xs (first-kept xs k)

from-step : (b : Bool) (k x : Overlap) (xs : List Overlap) (o : MOverlap) → (b ≡ true → plain_overlap x ≡ plain_overlap k) →
    Contains (plain_overlaps (dedup_from same k xs)) (plain_overlap k) →
    (Contains (plain_overlaps (k ∷ xs)) o → Contains (plain_overlaps (dedup_from same k xs)) o) →
    (Contains (plain_overlaps (x ∷ xs)) o → Contains (plain_overlaps (dedup_from same x xs)) o) → Contains (plain_overlaps (k ∷ x ∷ xs)) o → Contains (plain_overlaps (Kept b k x xs)) o
from-step true k x xs o e first f g h = elim (first-or-later (plain_overlap k) (plain_overlap x ∷ plain_overlaps xs) o h) [
  | inl is ↦ subst (Contains (plain_overlaps (dedup_from same k xs))) is first
  | inr r ↦ elim (first-or-later (plain_overlap x) (plain_overlaps xs) o r) [
    | inl is ↦ subst (Contains (plain_overlaps (dedup_from same k xs))) (sym (e refl) ∙ is) first
    | inr later ↦ f (later-in (plain_overlap k) (plain_overlaps xs) o later)
  ]
]
from-step false k x xs o e first f g h = elim (first-or-later (plain_overlap k) (plain_overlap x ∷ plain_overlaps xs) o h) [
  | inl is ↦ subst (Contains (plain_overlap k ∷ plain_overlaps (dedup_from same x xs))) is (first-in (plain_overlap k) (plain_overlaps (dedup_from same x xs)))
  | inr r ↦ later-in (plain_overlap k) (plain_overlaps (dedup_from same x xs)) o (g r)
]

from-kept : (xs : List Overlap) (k : Overlap) (o : MOverlap) → Contains (plain_overlaps (k ∷ xs)) o → Contains (plain_overlaps (dedup_from same k xs)) o
from-kept [] k o h = h
from-kept (x ∷ xs) k o h = from-step (same x k) k x xs o (same-overlap x k) (first-kept xs k) (from-kept xs k o) (from-kept xs x o) h

same-kept : (xs : List Overlap) (o : MOverlap) → Contains (plain_overlaps (dedup same xs)) o ↔ Contains (plain_overlaps xs) o
same-kept [] o = (λ h. h, λ h. h)
same-kept (x ∷ xs) o = (kept-from xs x o, from-kept xs x o)

-- ---- the order

-- the overlap stands before the other one, or is it
abbrev at_or_before : MOverlap → MOverlap → Bool
at_or_before o p = nat_lt o.first p.first || (nat_eq o.first p.first && (nat_lt o.second p.second || (nat_eq o.second p.second && int_le o.number p.number)))

lt-le : (x y z : ℤ) → int_lt x y ≡ true → int_le y z ≡ true → int_lt x z ≡ true
lt-le x y z g h = grind (arith, ints)

le-cases : (x y : ℤ) → int_le x y ≡ true → (int_lt x y ≡ true) ⊎ (x ≡ y)
le-cases x y h = go (int_lt x y) refl
  where
    go : (b : Bool) → int_lt x y ≡ b → (int_lt x y ≡ true) ⊎ (x ≡ y)
    go true e = inl e
    go false e = inr (one x y h e)
      where
        one : (x y : ℤ) → int_le x y ≡ true → int_lt x y ≡ false → x ≡ y
        one x y h e = grind (arith, ints)

-- first numbers compared, and then what follows
through : (p q r : ℕ) (b c d : Bool) → (b ≡ true → c ≡ true → d ≡ true) → (nat_lt p q || (nat_eq p q && b)) ≡ true → (nat_lt q r || (nat_eq q r && c)) ≡ true →
    (nat_lt p r || (nat_eq p r && d)) ≡ true
through p q r b c d f g h = before-by p r d (joined (by-before p q b g) (by-before q r c h))
  where
    joined : (p < q) ⊎ ((p ≡ q) × (b ≡ true)) → (q < r) ⊎ ((q ≡ r) × (c ≡ true)) → (p < r) ⊎ ((p ≡ r) × (d ≡ true))
    joined (inl a) (inl b) = inl (omega (arith, a, b))
    joined (inl a) (inr b) = inl (omega (arith, a, b.0))
    joined (inr a) (inl b) = inl (omega (arith, a.0, b))
    joined (inr a) (inr b) = inr (a.0 ∙ b.0, f a.1 b.1)

at-trans : (o p q : MOverlap) → at_or_before o p ≡ true → at_or_before p q ≡ true → at_or_before o q ≡ true
at-trans o p q g h =
    through o.first p.first q.first _ _ (nat_lt o.second q.second || (nat_eq o.second q.second && int_le o.number q.number))
    (λ s t. through o.second p.second q.second (int_le o.number p.number) (int_le p.number q.number) (int_le o.number q.number) (le-trans o.number p.number q.number) s t) g h

before-at : (o p q : MOverlap) → overlap_before o p ≡ true → at_or_before p q ≡ true → overlap_before o q ≡ true
before-at o p q g h =
    through o.first p.first q.first _ _ (nat_lt o.second q.second || (nat_eq o.second q.second && int_lt o.number q.number))
    (λ s t. through o.second p.second q.second (int_lt o.number p.number) (int_le p.number q.number) (int_lt o.number q.number) (lt-le o.number p.number q.number) s t) g h

-- of two that differ the one stands before the other
strict : (o p : MOverlap) → at_or_before o p ≡ true → (o ≡ p → ⊥) → overlap_before o p ≡ true
strict o p h differ =
    before-by o.first p.first (nat_lt o.second p.second || (nat_eq o.second p.second && int_lt o.number p.number))
    (elim (by-before o.first p.first (nat_lt o.second p.second || (nat_eq o.second p.second && int_le o.number p.number)) h) [
      | inl a ↦ inl a
      | inr a ↦ inr (
        a.0,
        before-by o.second p.second (int_lt o.number p.number)
            (elim (by-before o.second p.second (int_le o.number p.number) a.1) [
              | inl b ↦ inl b
              | inr b ↦ elim (le-cases o.number p.number b.1) [
                | inl less ↦ inr (b.0, less)
                | inr e ↦ absurd (differ (ap (λ n. record { first = n; second = o.second; number = o.number }) a.0 ∙ ap (λ n. record { first = p.first; second = n; number = o.number }) b.0
                    ∙ ap (λ n. record { first = p.first; second = p.second; number = n }) e))
              ]
            ]),
      )
    ])

abbrev pub overlap_key : Overlap → ℕ × (ℕ × (ℕ × ℕ))
overlap_key o = (o.first, (o.second, number_key o.value))

abbrev pub overlap_cmp : ℕ × (ℕ × (ℕ × ℕ)) → ℕ × (ℕ × (ℕ × ℕ)) → Ordering
overlap_cmp x y = ordering_then (nat_cmp x.0 y.0) (ordering_then (nat_cmp x.1.0 y.1.0) (number_cmp x.1.1 y.1.1))

at-next : (a b : Overlap) → is_lt (overlap_cmp (overlap_key b) (overlap_key a)) ≡ false → at_or_before (plain_overlap a) (plain_overlap b) ≡ true
at-next a b h =
    before-by a.first b.first (nat_lt a.second b.second || (nat_eq a.second b.second && int_le (num_value a.value) (num_value b.value)))
    (elim (by-first a.first b.first (ordering_then (nat_cmp b.second a.second) (number_cmp (number_key b.value) (number_key a.value))) h) [
      | inl l ↦ inl l
      | inr e ↦ inr (
        e.0,
        before-by a.second b.second (int_le (num_value a.value) (num_value b.value))
            (elim (by-first a.second b.second (number_cmp (number_key b.value) (number_key a.value)) e.1) [
              | inl l ↦ inl l
              | inr f ↦ inr (f.0, true-is (int_le (num_value a.value) (num_value b.value)) (number-order a.value b.value f.1))
            ]),
      )
    ])

abbrev Rise : List Overlap → Type 0
Rise [] = ⊤
Rise (x ∷ xs) = All (λ y. at_or_before (plain_overlap x) (plain_overlap y) ≡ true) xs × Rise xs

abbrev Strict : List Overlap → Type 0
Strict [] = ⊤
Strict (x ∷ xs) = All (λ y. overlap_before (plain_overlap x) (plain_overlap y) ≡ true) xs × Strict xs

rises : (xs : List Overlap) → ((k : ℕ) (d : Overlap) → suc k < length xs → at_or_before (plain_overlap (get_or xs k d)) (plain_overlap (get_or xs (suc k) d)) ≡ true) → Rise xs
rises [] h = tt
rises (x ∷ []) h = (All-nil (λ y. at_or_before (plain_overlap x) (plain_overlap y) ≡ true), tt)
rises (x ∷ y ∷ xs) h =
    let more = rises (y ∷ xs) (λ k d l. h (suc k) d (omega (arith, l))) in
    let next : at_or_before (plain_overlap x) (plain_overlap y) ≡ true = h zero x (omega arith) in (
      All-cons (λ z. at_or_before (plain_overlap x) (plain_overlap z) ≡ true) y xs next
          (λ k d l. at-trans (plain_overlap x) (plain_overlap y) (plain_overlap (get_or xs k d)) next (more.0 k d l)),
      more,
    )

strict-step : (b : Bool) (k x : Overlap) (xs : List Overlap) → same x k ≡ b → Rise (k ∷ x ∷ xs) → Strict (dedup_from same k xs) → Strict (dedup_from same x xs) → Strict (Kept b k x xs)
strict-step true k x xs e r g h = g
strict-step false k x xs e r g h =
    let next : overlap_before (plain_overlap k) (plain_overlap x) ≡ true =
    strict (plain_overlap k) (plain_overlap x) (All-head (λ y. at_or_before (plain_overlap k) (plain_overlap y) ≡ true) x xs r.0)
    (λ f. let yes : same x k ≡ true = equal-overlap x k (sym f) in let both : true ≡ false = sym yes ∙ e in cc) in (
      All-dedup same (λ y. overlap_before (plain_overlap k) (plain_overlap y) ≡ true) (x ∷ xs)
          (All-cons (λ y. overlap_before (plain_overlap k) (plain_overlap y) ≡ true) x xs next
          (λ n d l. before-at (plain_overlap k) (plain_overlap x) (plain_overlap (get_or xs n d)) next (r.1.0 n d l))),
      h,
    )

strict-kept : (xs : List Overlap) (k : Overlap) → Rise (k ∷ xs) → Strict (dedup_from same k xs)
strict-kept [] k r = (All-nil (λ y. overlap_before (plain_overlap k) (plain_overlap y) ≡ true), tt)
strict-kept (x ∷ xs) k r =
    strict-step (same x k) k x xs refl r (strict-kept xs k (All-tail (λ y. at_or_before (plain_overlap k) (plain_overlap y) ≡ true) x xs r.0, r.1.1)) (strict-kept xs x r.1)

strict-all : (xs : List Overlap) → Rise xs → Strict (dedup same xs)
strict-all [] r = tt
strict-all (x ∷ xs) r = strict-kept xs x r

ascending : (xs : List Overlap) → Strict xs → (i j : ℕ) (o p : MOverlap) → slice_get (plain_overlaps xs) i ≡ Some o → slice_get (plain_overlaps xs) j ≡ Some p → i < j →
    IsTrue (overlap_before o p)
ascending [] s i j o p g h l = cc
ascending (x ∷ xs) s zero zero o p g h l = absurd (omega (arith, l))
ascending (x ∷ xs) s zero (suc j) o p g h l =
    let same : plain_overlap x ≡ o = cc in
    subst (λ y. IsTrue (overlap_before y p)) same (is-true (overlap_before (plain_overlap x) p) (later (plain_overlap x) xs j p s.0 h))
  where
    later : (o : MOverlap) (ys : List Overlap) (j : ℕ) (p : MOverlap) → All (λ y. overlap_before o (plain_overlap y) ≡ true) ys → slice_get (plain_overlaps ys) j ≡ Some p → overlap_before o p ≡ true
    later o [] j p a h = cc
    later o (y ∷ ys) zero p a h = let same : plain_overlap y ≡ p = cc in subst (λ z. overlap_before o z ≡ true) same (All-head (λ z. overlap_before o (plain_overlap z) ≡ true) y ys a)
    later o (y ∷ ys) (suc j) p a h = later o ys j p (All-tail (λ z. overlap_before o (plain_overlap z) ≡ true) y ys a) h
ascending (x ∷ xs) s (suc i) zero o p g h l = absurd (omega (arith, l))
ascending (x ∷ xs) s (suc i) (suc j) o p g h l = ascending xs s.1 i j o p g h (omega (arith, l))

-- overlaps sorted by their keys, each kept once, are in order
pub sorted-once : (old sorted : List Overlap) → IsPermutation old sorted → IsSortedByKey overlap_key overlap_cmp sorted → IsInOrder (plain_overlaps old) (plain_overlaps (dedup same sorted))
sorted-once old sorted p s = record {
  same = λ o.
      let moved = IsPermutation-map plain_overlap old sorted p in (
        λ h. Contains-permutation (plain_overlaps sorted) (plain_overlaps old) o (IsPermutation-sym (plain_overlaps old) (plain_overlaps sorted) moved) ((same-kept sorted o).0 h),
        λ h. (same-kept sorted o).1 (Contains-permutation (plain_overlaps old) (plain_overlaps sorted) o moved h),
      );
  ascending = ascending (dedup same sorted) (strict-all sorted
      (rises sorted (λ k d l. at-next (get_or sorted k d) (get_or sorted (suc k) d)
      (subst (λ j. is_lt (overlap_cmp (overlap_key (get_or sorted j d)) (overlap_key (get_or sorted k d))) ≡ false) (add-one k) (s k d (omega arith) (omega (arith, l)))))));
}
