-- Ends sorted by their key ascend, and those that face an end stand together.
use Rattle.std.proofs.Common.{◌≡◌, ◌<◌, ◌≤◌, ◌⊎◌, inl, inr, ℕ, zero, suc, ◌^◌, ℤ, Bool, true, false, not, ◌&&◌, ◌||◌, List, [], ◌∷◌, length, get_or, slice_get, Some, refl, sym, ap, subst, ◌∙◌, arith, add-one, nat_lt, nat_eq}
use Rattle.std.specs.Prelude.{IsTrue, int_le}
use Rattle.std.specs.List.Sorted.{IsSortedByKey, IsPartitionedBy}
use Rattle.std.specs.Ordering.{nat_cmp, is_lt, ordering_then}
use Rattle.std.specs.declared.cmp.Ordering.{Ordering}
use Rattle.std.specs.declared.cmp.Ordering.TheVariants.{Less, Equal, Greater}
use Rattle.std.proofs.lemmas.Int.{ints}
use Rattle.std.proofs.lemmas.Bool.Decides.{nat_tests}
use Rattle.std.proofs.lemmas.List.Elements.{All-cons}
use Rattle.std.proofs.lemmas.List.Kept.{AllPairs-cons}
use Rattle.range_split.specs.declared.num.Num.{Num}
use Rattle.range_split.specs.Numbers.{signed, num_value}
use Rattle.range_split.specs.Order.{key_by}
use Rattle.pattern_lints.specs.declared.ends.RangeEnd.{RangeEnd}
use Rattle.pattern_lints.specs.declared.ends.Side.{Side}
use Rattle.pattern_lints.specs.declared.ends.Side.TheVariants.{Low, High}
use Rattle.pattern_lints.specs.Ends.{by_place, by_number, is_under, comes_before, Rise, is_before, is_high, Faces, IsCount, IsRun}

-- ---- keys

-- the order of the keys of numbers
abbrev pub number_cmp : ℕ × ℕ → ℕ × ℕ → Ordering
number_cmp x y = ordering_then (nat_cmp x.0 y.0) (nat_cmp x.1 y.1)

abbrev pub number_key : Num → ℕ × ℕ
number_key n = key_by n.negative n.size

key-order : (s t : Bool) (m n : ℕ) → m < 2 ^ 128 → n < 2 ^ 128 → is_lt (number_cmp (key_by t n) (key_by s m)) ≡ false → IsTrue (int_le (signed s m) (signed t n))
key-order true true m n k l h = grind (arith, ints, nat_tests)
key-order true false m n k l h = grind (arith, ints, nat_tests)
key-order false true m n k l h = grind (arith, ints, nat_tests)
key-order false false m n k l h = grind (arith, ints, nat_tests)

-- a number whose key is not below that of another one is not below it
pub number-order : (a b : Num) → is_lt (number_cmp (number_key b) (number_key a)) ≡ false → IsTrue (int_le (num_value a) (num_value b))
number-order a b h = key-order a.negative b.negative a.size b.size a.size_fits b.size_fits h

key-same : (s t : Bool) (m n : ℕ) → m < 2 ^ 128 → n < 2 ^ 128 → number_cmp (key_by t n) (key_by s m) ≡ Equal → signed s m ≡ signed t n
key-same true true m n k l h =
    let same : m ≡ n = grind (arith, nat_tests) in
    ap (signed true) same
key-same true false m n k l h = cc
key-same false true m n k l h = cc
key-same false false m n k l h =
    let same : m ≡ n = grind (arith, nat_tests) in
    ap (signed false) same

key-greater : (s t : Bool) (m n : ℕ) → m < 2 ^ 128 → n < 2 ^ 128 → (m ≡ 0 → s ≡ false) → number_cmp (key_by t n) (key_by s m) ≡ Greater → int_le (signed t n) (signed s m) ≡ false
key-greater true true m n k l z h =
    let less : n < m = grind (arith, nat_tests) in
    below-zero n m less
  where
    below-zero : (n m : ℕ) → n < m → int_le (signed true n) (signed true m) ≡ false
    below-zero n m l = grind (arith, ints)
key-greater true false zero n k l z h = let no : true ≡ false = z refl in cc
key-greater true false (suc m) n k l z h = apart n m
  where
    apart : (n m : ℕ) → int_le (signed false n) (signed true (suc m)) ≡ false
    apart n m = grind (arith, ints)
key-greater false true m n k l z h = cc
key-greater false false m n k l z h =
    let less : m < n = grind (arith, nat_tests) in
    above-zero m n less
  where
    above-zero : (m n : ℕ) → m < n → int_le (signed false n) (signed false m) ≡ false
    above-zero m n l = grind (arith, ints)

-- numbers decide, and where they are one what follows
number-first : (a b : Num) (o : Ordering) → is_lt (ordering_then (number_cmp (number_key b) (number_key a)) o) ≡ false →
    (int_le (num_value b) (num_value a) ≡ false) ⊎ ((num_value a ≡ num_value b) × (is_lt o ≡ false))
number-first a b o h = go (number_cmp (number_key b) (number_key a)) refl
  where
    go : (c : Ordering) → number_cmp (number_key b) (number_key a) ≡ c → (int_le (num_value b) (num_value a) ≡ false) ⊎ ((num_value a ≡ num_value b) × (is_lt o ≡ false))
    go Less e = let both : true ≡ false = ap (λ x. is_lt (ordering_then x o)) (sym e) ∙ h in cc
    go Equal e =
        inr (key-same a.negative b.negative a.size b.size a.size_fits b.size_fits e, ap (λ x. is_lt (ordering_then x o)) (sym e) ∙ h)
    go Greater e = inl (key-greater a.negative b.negative a.size b.size a.size_fits b.size_fits a.zero_is_not_negative e)

-- what stands first in the key decides, else what follows
pub by-first : (m n : ℕ) (o : Ordering) → is_lt (ordering_then (nat_cmp n m) o) ≡ false → (m < n) ⊎ ((m ≡ n) × (is_lt o ≡ false))
by-first m n o h = go (nat_lt m n) (nat_lt n m) refl refl
  where
    go : (a b : Bool) → nat_lt m n ≡ a → nat_lt n m ≡ b → (m < n) ⊎ ((m ≡ n) × (is_lt o ≡ false))
    go true b e f = inl (less m n e)
      where
        less : (m n : ℕ) → nat_lt m n ≡ true → m < n
        less m n e = grind (arith, nat_tests)
    go false true e f =
        let first : nat_cmp n m ≡ Less = grind (arith, nat_tests) in
        let both : true ≡ false = ap (λ x. is_lt (ordering_then x o)) (sym first) ∙ h in
        cc
    go false false e f =
        let first : nat_cmp n m ≡ Equal = grind (arith, nat_tests) in
        inr (same m n e f, ap (λ x. is_lt (ordering_then x o)) (sym first) ∙ h)
      where
        same : (m n : ℕ) → nat_lt m n ≡ false → nat_lt n m ≡ false → m ≡ n
        same m n e f = grind (arith, nat_tests)

abbrev pub end_key : RangeEnd → ℕ × ((ℕ × ℕ) × (ℕ × ℕ))
end_key e = (e.place, (number_key e.number, number_key e.from))

abbrev pub end_cmp : ℕ × ((ℕ × ℕ) × (ℕ × ℕ)) → ℕ × ((ℕ × ℕ) × (ℕ × ℕ)) → Ordering
end_cmp x y = ordering_then (nat_cmp x.0 y.0) (ordering_then (number_cmp x.1.0 y.1.0) (number_cmp x.1.1 y.1.1))

-- ---- by places and by numbers

pub before-by : (p q : ℕ) (b : Bool) → (p < q) ⊎ ((p ≡ q) × (b ≡ true)) → by_place p q b ≡ true
before-by p q true (inl l) = grind (arith, nat_tests)
before-by p q false (inl l) = grind (arith, nat_tests)
before-by p q true (inr e) = let same = e.0 in grind (arith, nat_tests)
before-by p q false (inr e) = let no = e.1 in cc

pub by-before : (p q : ℕ) (b : Bool) → by_place p q b ≡ true → (p < q) ⊎ ((p ≡ q) × (b ≡ true))
by-before p q b h = go (nat_lt p q) (nat_eq p q) refl refl
  where
    go : (s t : Bool) → nat_lt p q ≡ s → nat_eq p q ≡ t → (p < q) ⊎ ((p ≡ q) × (b ≡ true))
    go true t e f = inl (grind (arith, nat_tests))
    go false true e f =
        let same : p ≡ q = grind (arith, nat_tests) in
        let rest : (false || (true && b)) ≡ true = ap (λ s. s || (true && b)) (sym e) ∙ ap (λ t. nat_lt p q || (t && b)) (sym f) ∙ h in
        inr (same, rest)
    go false false e f =
        let rest : (false || (false && b)) ≡ true = ap (λ s. s || (false && b)) (sym e) ∙ ap (λ t. nat_lt p q || (t && b)) (sym f) ∙ h in
        cc

pub is-true : (b : Bool) → b ≡ true → IsTrue b
is-true b e = e

pub true-is : (b : Bool) → IsTrue b → b ≡ true
true-is b h = h

le-itself : (x : ℤ) → int_le x x ≡ true
le-itself x = grind (arith, ints)

pub le-trans : (x y z : ℤ) → int_le x y ≡ true → int_le y z ≡ true → int_le x z ≡ true
le-trans x y z g h = grind (arith, ints)

number-by : (x y : ℤ) (b : Bool) → (int_le y x ≡ false) ⊎ ((x ≡ y) × (b ≡ true)) → by_number x y b ≡ true
number-by x y b (inl l) = ap (λ s. not s || (int_le x y && b)) l
number-by x y b (inr e) =
    subst (λ z. by_number x z b ≡ true) e.0
    (ap (λ s. not s || (int_le x x && b)) (le-itself x) ∙ ap (λ s. s && b) (le-itself x) ∙ e.1)

by-numbers : (x y : ℤ) (b : Bool) → by_number x y b ≡ true → (int_le y x ≡ false) ⊎ ((x ≡ y) × (b ≡ true))
by-numbers x y b h = go (int_le y x) (int_le x y) refl refl
  where
    one : (x y : ℤ) → int_le y x ≡ true → int_le x y ≡ true → x ≡ y
    one x y g h = grind (arith, ints)

    go : (s t : Bool) → int_le y x ≡ s → int_le x y ≡ t → (int_le y x ≡ false) ⊎ ((x ≡ y) × (b ≡ true))
    go false t e f = inl e
    go true true e f =
        let rest : (not true || (true && b)) ≡ true = ap (λ s. not s || (true && b)) (sym e) ∙ ap (λ t. not (int_le y x) || (t && b)) (sym f) ∙ h in
        inr (one x y e f, rest)
    go true false e f =
        let rest : (not true || (false && b)) ≡ true = ap (λ s. not s || (false && b)) (sym e) ∙ ap (λ t. not (int_le y x) || (t && b)) (sym f) ∙ h in
        cc

place-then : (p q r : ℕ) (a b c : Bool) → (a ≡ true → b ≡ true → c ≡ true) → by_place p q a ≡ true → by_place q r b ≡ true → by_place p r c ≡ true
place-then p q r a b c f g h = before-by p r c (joined (by-before p q a g) (by-before q r b h))
  where
    joined : (p < q) ⊎ ((p ≡ q) × (a ≡ true)) → (q < r) ⊎ ((q ≡ r) × (b ≡ true)) → (p < r) ⊎ ((p ≡ r) × (c ≡ true))
    joined (inl k) (inl l) = inl (omega (arith, k, l))
    joined (inl k) (inr l) = inl (omega (arith, k, l.0))
    joined (inr k) (inl l) = inl (omega (arith, k.0, l))
    joined (inr k) (inr l) = inr (k.0 ∙ l.0, f k.1 l.1)

number-then : (x y z : ℤ) (a b c : Bool) → (a ≡ true → b ≡ true → c ≡ true) → by_number x y a ≡ true → by_number y z b ≡ true → by_number x z c ≡ true
number-then x y z a b c f g h = number-by x z c (joined (by-numbers x y a g) (by-numbers y z b h))
  where
    less : (x y z : ℤ) → int_le y x ≡ false → int_le z y ≡ false → int_le z x ≡ false
    less x y z k l = grind (arith, ints)

    joined : (int_le y x ≡ false) ⊎ ((x ≡ y) × (a ≡ true)) → (int_le z y ≡ false) ⊎ ((y ≡ z) × (b ≡ true)) → (int_le z x ≡ false) ⊎ ((x ≡ z) × (c ≡ true))
    joined (inl k) (inl l) = inl (less x y z k l)
    joined (inl k) (inr l) = inl (subst (λ w. int_le w x ≡ false) l.0 k)
    joined (inr k) (inl l) = inl (subst (λ w. int_le z w ≡ false) (sym k.0) l)
    joined (inr k) (inr l) = inr (k.0 ∙ l.0, f k.1 l.1)

-- ---- the order

not-le : (x y z : ℤ) → int_le y z ≡ true → not (int_le x z) ≡ true → not (int_le x y) ≡ true
not-le x y z g h = go (int_le x y) refl
  where
    go : (b : Bool) → int_le x y ≡ b → not b ≡ true
    go false e = refl
    go true e = let all : int_le x z ≡ true = le-trans x y z e g in let none : not true ≡ true = ap not (sym all) ∙ h in cc

under-down : (equal : Bool) (x y bound : ℤ) → int_le x y ≡ true → is_under equal y bound ≡ true → is_under equal x bound ≡ true
under-down true x y bound g h = le-trans x y bound g h
under-down false x y bound g h = not-le bound x y g h

comes-trans : (d e f : RangeEnd) → comes_before d e ≡ true → comes_before e f ≡ true → comes_before d f ≡ true
comes-trans d e f g h =
    place-then d.place e.place f.place (by_number (num_value d.number) (num_value e.number) (int_le (num_value d.from) (num_value e.from)))
    (by_number (num_value e.number) (num_value f.number) (int_le (num_value e.from) (num_value f.from)))
    (by_number (num_value d.number) (num_value f.number) (int_le (num_value d.from) (num_value f.from)))
    (λ k l. number-then (num_value d.number) (num_value e.number) (num_value f.number) (int_le (num_value d.from) (num_value e.from)) (int_le (num_value e.from) (num_value f.from))
    (int_le (num_value d.from) (num_value f.from)) (λ s t. le-trans (num_value d.from) (num_value e.from) (num_value f.from) s t) k l) g h

comes-next : (d e : RangeEnd) → is_lt (end_cmp (end_key e) (end_key d)) ≡ false → comes_before d e ≡ true
comes-next d e h =
    before-by d.place e.place (by_number (num_value d.number) (num_value e.number) (int_le (num_value d.from) (num_value e.from)))
    (elim (by-first d.place e.place (ordering_then (number_cmp (number_key e.number) (number_key d.number)) (number_cmp (number_key e.from) (number_key d.from))) h) [
      | inl a ↦ inl a
      | inr s ↦
          inr (
            s.0,
            number-by (num_value d.number) (num_value e.number) (int_le (num_value d.from) (num_value e.from))
                (elim (number-first d.number e.number (number_cmp (number_key e.from) (number_key d.from)) s.1) [
                  | inl a ↦ inl a
                  | inr t ↦ inr (t.0, number-order d.from e.from t.1)
                ]),
          )
    ])

rises : (xs : List RangeEnd) → ((k : ℕ) (d : RangeEnd) → suc k < length xs → comes_before (get_or xs k d) (get_or xs (suc k) d) ≡ true) → Rise xs
rises [] h = λ i j d l k. absurd (omega (arith, k))
rises (x ∷ []) h = λ i j d l k. absurd (omega (arith, l, k))
rises (x ∷ y ∷ xs) h =
    let more = rises (y ∷ xs) (λ k d l. h (suc k) d (omega (arith, l))) in
    let next : comes_before x y ≡ true = h zero x (omega arith) in
    AllPairs-cons (λ d e. IsTrue (comes_before d e)) x (y ∷ xs)
    (All-cons (λ e. IsTrue (comes_before x e)) y xs next
    (λ k d l. comes-trans x y (get_or xs k d) next (more 0 (suc k) d (omega arith) (omega (arith, l))))) more

-- ends sorted by their keys ascend
pub rise-sorted : (xs : List RangeEnd) → IsSortedByKey end_key end_cmp xs → Rise xs
rise-sorted xs s =
    rises xs (λ k d l. comes-next (get_or xs k d) (get_or xs (suc k) d)
    (subst (λ j. is_lt (end_cmp (end_key (get_or xs j d)) (end_key (get_or xs k d))) ≡ false) (add-one k) (s k d (omega arith) (omega (arith, l)))))

-- ---- runs

before-down : (equal : Bool) (place : ℕ) (x bound : ℤ) (d e : RangeEnd) → comes_before d e ≡ true → is_before equal place x bound e ≡ true → is_before equal place x bound d ≡ true
before-down equal place x bound d e g h =
    place-then d.place e.place place (by_number (num_value d.number) (num_value e.number) (int_le (num_value d.from) (num_value e.from)))
    (by_number (num_value e.number) x (is_under equal (num_value e.from) bound)) (by_number (num_value d.number) x (is_under equal (num_value d.from) bound))
    (λ k l. number-then (num_value d.number) (num_value e.number) x (int_le (num_value d.from) (num_value e.from)) (is_under equal (num_value e.from) bound)
    (is_under equal (num_value d.from) bound) (λ s t. under-down equal (num_value d.from) (num_value e.from) bound s t) k l) g h

pub before-parted : (equal : Bool) (place : ℕ) (x bound : ℤ) (ends : List RangeEnd) → Rise ends → IsPartitionedBy (is_before equal place x bound) ends
before-parted equal place x bound ends rise i j d l k h = go (nat_lt i j) refl
  where
    go : (b : Bool) → nat_lt i j ≡ b → is_before equal place x bound (get_or ends i d) ≡ true
    go true e =
        let less : i < j = below i j e in
        before-down equal place x bound (get_or ends i d) (get_or ends j d) (rise i j d less k) h
      where
        below : (i j : ℕ) → nat_lt i j ≡ true → i < j
        below i j e = grind (arith, nat_tests)
    go false e = let same : j ≡ i = at i j l e in subst (λ n. is_before equal place x bound (get_or ends n d) ≡ true) same h
      where
        at : (i j : ℕ) → i ≤ j → nat_lt i j ≡ false → j ≡ i
        at i j l e = grind (arith, nat_tests)

read : {X : Type 0} (xs : List X) (i : ℕ) (x : X) → slice_get xs i ≡ Some x → (i < length xs) × (get_or xs i x ≡ x)
read [] i x e = cc
read (y ∷ ys) zero x e = let same : y ≡ x = cc in (omega arith, same)
read (y ∷ ys) (suc i) x e = let h = read ys i x e in (omega (arith, h.0), h.1)

-- at one place and number the bound decides
same-place : (p : ℕ) (b : Bool) → by_place p p b ≡ b
same-place p true = grind (arith, nat_tests)
same-place p false = grind (arith, nat_tests)

same-number : (x : ℤ) (b : Bool) → by_number x x b ≡ b
same-number x b = ap (λ s. not s || (s && b)) (le-itself x)

at-same : (equal : Bool) (place : ℕ) (x bound : ℤ) (d : RangeEnd) → d.place ≡ place → num_value d.number ≡ x → is_before equal place x bound d ≡ is_under equal (num_value d.from) bound
at-same equal place x bound d p n =
    let under = is_under equal (num_value d.from) bound in
    subst (λ q. by_place d.place q (by_number (num_value d.number) x under) ≡ under) p
    (subst (λ y. by_place d.place d.place (by_number (num_value d.number) y under) ≡ under) n
    (same-place d.place (by_number (num_value d.number) (num_value d.number) under) ∙ same-number (num_value d.number) under))

-- one count leaves it out and the other one has it, so it is at the place and the number
at-place : (equal other : Bool) (place : ℕ) (x bound limit : ℤ) (d : RangeEnd) → is_before equal place x bound d ≡ false → is_before other place x limit d ≡ true →
    (d.place ≡ place) × (num_value d.number ≡ x)
at-place equal other place x bound limit d g h =
    elim (by-before d.place place (by_number (num_value d.number) x (is_under other (num_value d.from) limit)) h) [
      | inl l ↦
          let yes : is_before equal place x bound d ≡ true = before-by d.place place (by_number (num_value d.number) x (is_under equal (num_value d.from) bound)) (inl l) in
          let both : true ≡ false = sym yes ∙ g in cc
      | inr p ↦ (
        p.0,
        elim (by-numbers (num_value d.number) x (is_under other (num_value d.from) limit) p.1) [
          | inl l ↦
              let yes : is_before equal place x bound d ≡ true =
              before-by d.place place (by_number (num_value d.number) x (is_under equal (num_value d.from) bound))
              (inr (p.0, number-by (num_value d.number) x (is_under equal (num_value d.from) bound) (inl l))) in
              let both : true ≡ false = sym yes ∙ g in cc
          | inr e ↦ e.0
        ],
      )
    ]

-- what is not under a bound has the bound under it
turned-under : (side : Side) (x bound : ℤ) → is_under (not (is_high side)) x bound ≡ false → is_under (is_high side) bound x ≡ true
turned-under High x bound h = go (int_le bound x) refl
  where
    go : (b : Bool) → int_le bound x ≡ b → int_le bound x ≡ true
    go true e = e
    go false e = let both : not false ≡ false = ap not (sym e) ∙ h in cc
turned-under Low x bound h = ap not h

turned-back : (side : Side) (x bound : ℤ) → is_under (is_high side) bound x ≡ true → is_under (not (is_high side)) x bound ≡ false
turned-back High x bound h = ap not h
turned-back Low x bound h = go (int_le x bound) refl
  where
    go : (b : Bool) → int_le x bound ≡ b → int_le x bound ≡ false
    go false e = e
    go true e = let both : not true ≡ true = ap not (sym e) ∙ h in cc

-- the ends between the two counts are those that face the end
pub run-is : (side : Side) (e : RangeEnd) (ends : List RangeEnd) (first end : ℕ) → IsCount (is_before (not (is_high side)) e.place (num_value e.number) (num_value e.from)) ends first →
    IsCount (is_before true e.place (num_value e.number) (num_value e.to)) ends end → IsRun side e ends first end
run-is side e ends first end f g = record {
  within = g.bound;
  inside = λ i d l k at.
      let r = read ends i d at in
      let no : is_before (not (is_high side)) e.place (num_value e.number) (num_value e.from) d ≡ false =
      subst (λ y. is_before (not (is_high side)) e.place (num_value e.number) (num_value e.from) y ≡ false) r.1 (f.point.1 i d l r.0) in
      let yes : is_before true e.place (num_value e.number) (num_value e.to) d ≡ true =
      subst (λ y. is_before true e.place (num_value e.number) (num_value e.to) y ≡ true) r.1 (g.point.0 i d (omega arith) k) in
      let is = at-place (not (is_high side)) true e.place (num_value e.number) (num_value e.from) (num_value e.to) d no yes in
      record {
        place = is.0;
        number = is.1;
        above = turned-under side (num_value d.from) (num_value e.from) (sym (at-same (not (is_high side)) e.place (num_value e.number) (num_value e.from) d is.0 is.1) ∙ no);
        within = sym (at-same true e.place (num_value e.number) (num_value e.to) d is.0 is.1) ∙ yes;
      };
  every = λ i d at faces.
      let r = read ends i d at in
      (from i d r faces (nat_lt i first) refl, below i d r faces (nat_lt i end) refl);
}
  where
    less : (i k : ℕ) → nat_lt i k ≡ true → i < k
    less i k t = grind (arith, nat_tests)

    at-least : (i k : ℕ) → nat_lt i k ≡ false → k ≤ i
    at-least i k t = grind (arith, nat_tests)

    from : (i : ℕ) (d : RangeEnd) → (i < length ends) × (get_or ends i d ≡ d) → Faces side e d → (b : Bool) → nat_lt i first ≡ b → first ≤ i
    from i d r faces false t = at-least i first t
    from i d r faces true t =
        let yes : is_before (not (is_high side)) e.place (num_value e.number) (num_value e.from) d ≡ true =
        subst (λ y. is_before (not (is_high side)) e.place (num_value e.number) (num_value e.from) y ≡ true) r.1 (f.point.0 i d (omega arith) (less i first t)) in
        let no = turned-back side (num_value d.from) (num_value e.from) faces.above in
        let both : true ≡ false = sym yes ∙ at-same (not (is_high side)) e.place (num_value e.number) (num_value e.from) d faces.place faces.number ∙ no in
        cc

    below : (i : ℕ) (d : RangeEnd) → (i < length ends) × (get_or ends i d ≡ d) → Faces side e d → (b : Bool) → nat_lt i end ≡ b → i < end
    below i d r faces true t = less i end t
    below i d r faces false t =
        let no : is_before true e.place (num_value e.number) (num_value e.to) d ≡ false =
        subst (λ y. is_before true e.place (num_value e.number) (num_value e.to) y ≡ false) r.1 (g.point.1 i d (at-least i end t) r.0) in
        let both : true ≡ false = sym faces.within ∙ sym (at-same true e.place (num_value e.number) (num_value e.to) d faces.place faces.number) ∙ no in
        cc
