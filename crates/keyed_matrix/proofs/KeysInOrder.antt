-- Of two ascending lists of decisions, that whose key comes before is less.
use Rattle.std.proofs.Common.{◌≡◌, ◌<◌, ◌⊎◌, inl, inr, ℕ, true, false, List, [], ◌∷◌, nat_eq, Some, None, cond, refl, sym, ap, ◌∙◌, arith}
use Rattle.std.proofs.lemmas.Bool.Decides.{nat_tests}
use Rattle.match_model.specs.Lists.{Every}
use Rattle.match_model.specs.Keys.{Decision, key_of, IsBefore}
use Rattle.keyed_matrix.specs.KeyLists.{DoAscend, IsLess}

pub equal-tests : (a b : ℕ) → a ≡ b → nat_eq a b ≡ true
equal-tests a b e = grind (arith, nat_tests)

pub other-tests : (a b : ℕ) → ¬ (a ≡ b) → nat_eq a b ≡ false
other-tests a b e = grind (arith, nat_tests)

-- the first decision, and the others
at-first : (d : Decision) (ds : List Decision) (o : ℕ) → d.number ≡ o → key_of (d ∷ ds) o ≡ Some d.alternative
at-first d ds o e = ap (λ b. cond b (Some d.alternative) (key_of ds o)) (equal-tests d.number o e)

at-others : (d : Decision) (ds : List Decision) (o : ℕ) → ¬ (d.number ≡ o) → key_of (d ∷ ds) o ≡ key_of ds o
at-others d ds o e = ap (λ b. cond b (Some d.alternative) (key_of ds o)) (other-tests d.number o e)

-- an or-pattern with a lesser number than all is not decided
pub not-decided : (n : ℕ) (ds : List Decision) → Every (λ d. n < d.number) ds → key_of ds n ≡ None
not-decided n [] a = refl
not-decided n (d ∷ ds) a =
    at-others d ds n (λ e. absurd (let l : n < d.number = a.0 in omega (arith, e, l))) ∙ not-decided n ds a.1

pub below-all : (n : ℕ) (d : Decision) (ds : List Decision) → n < d.number → Every (λ e. d.number < e.number) ds →
    Every (λ e. n < e.number) (d ∷ ds)
below-all n d ds l a = (l, wider ds a)
  where
    wider : (es : List Decision) → Every (λ e. d.number < e.number) es → Every (λ e. n < e.number) es
    wider [] b = tt
    wider (e ∷ es) b = (let k : d.number < e.number = b.0 in omega (arith, k, l), wider es b.1)

some-none : {A : Type 0} (a : A) → Some a ≡ None → ⊥
some-none a e = cc

some-some : (a b : ℕ) → Some a ≡ Some b → a ≡ b
some-some a b e = cc

three : (a b : ℕ) → (a < b) ⊎ ((a ≡ b) ⊎ (b < a))
three a b = grind arith

-- a decided or-pattern has no lesser number than the first
pub decided-from : (d : Decision) (ds : List Decision) (o x : ℕ) → DoAscend (d ∷ ds) → key_of (d ∷ ds) o ≡ Some x → ¬ (o < d.number)
decided-from d ds o x a e l = some-none x (sym e ∙ not-decided o (d ∷ ds) (below-all o d ds l a.0))

-- nothing at or below a number that is less than all is decided
none-up-to : (n o : ℕ) (ds : List Decision) → (o < n) ⊎ (o ≡ n) → Every (λ d. n < d.number) ds → key_of ds o ≡ None
none-up-to n o ds h a = not-decided o ds (go ds a h)
  where
    go : (es : List Decision) → Every (λ e. n < e.number) es → (o < n) ⊎ (o ≡ n) → Every (λ e. o < e.number) es
    go [] b g = tt
    go (e ∷ es) b (inl g) = (let k : n < e.number = b.0 in omega (arith, k, g), go es b.1 (inl g))
    go (e ∷ es) b (inr g) = (let k : n < e.number = b.0 in omega (arith, k, g), go es b.1 (inr g))

-- where the first decisions are of one or-pattern and the keys differ behind it, the others decide
rest-before : (x : Decision) (xs : List Decision) (y : Decision) (ys : List Decision) → DoAscend (x ∷ xs) → DoAscend (y ∷ ys) →
    x.number ≡ y.number → (k : IsBefore (key_of (x ∷ xs)) (key_of (y ∷ ys))) → x.number < k.at →
    IsBefore (key_of xs) (key_of ys)
rest-before x xs y ys a b e k l = record {
  at = k.at;
  one = k.one;
  other = k.other;
  first = sym (at-others x xs k.at (λ f. absurd (omega (arith, f, l)))) ∙ k.first;
  second = sym (at-others y ys k.at (λ f. absurd (omega (arith, e, f, l)))) ∙ k.second;
  less = k.less;
  same = λ o h. alike o h (three o x.number);
}
  where
    none : (o : ℕ) → (o < x.number) ⊎ (o ≡ x.number) → (o < y.number) ⊎ (o ≡ y.number)
    none o (inl g) = inl (omega (arith, g, e))
    none o (inr g) = inr (g ∙ e)

    alike : (o : ℕ) → o < k.at → (o < x.number) ⊎ ((o ≡ x.number) ⊎ (x.number < o)) → key_of xs o ≡ key_of ys o
    alike o h (inl g) =
        none-up-to x.number o xs (inl g) a.0 ∙ sym (none-up-to y.number o ys (none o (inl g)) b.0)
    alike o h (inr (inl g)) =
        none-up-to x.number o xs (inr g) a.0 ∙ sym (none-up-to y.number o ys (none o (inr g)) b.0)
    alike o h (inr (inr g)) =
        sym (at-others x xs o (λ f. absurd (omega (arith, f, g)))) ∙ k.same o h
        ∙ at-others y ys o (λ f. absurd (omega (arith, e, f, g)))

greater : (x : Decision) (xs : List Decision) (y : Decision) (ys : List Decision) → DoAscend (x ∷ xs) →
    (k : IsBefore (key_of (x ∷ xs)) (key_of (y ∷ ys))) → y.number < x.number →
    (y.number < k.at) ⊎ ((y.number ≡ k.at) ⊎ (k.at < y.number)) → ⊥
greater x xs y ys a k g (inl l) =
    some-none y.alternative (sym (at-first y ys y.number refl) ∙ sym (k.same y.number l)
    ∙ not-decided y.number (x ∷ xs) (below-all y.number x xs g a.0))
greater x xs y ys a k g (inr (inl e)) = decided-from x xs k.at k.one a k.first (omega (arith, g, e))
greater x xs y ys a k g (inr (inr l)) = decided-from x xs k.at k.one a k.first (omega (arith, g, l))

-- where they differ at the first decisions
less-here : (x : Decision) (xs : List Decision) (y : Decision) (ys : List Decision) → x.number ≡ y.number →
    (k : IsBefore (key_of (x ∷ xs)) (key_of (y ∷ ys))) → k.at ≡ x.number → x.alternative < y.alternative
less-here x xs y ys e k f =
    let p : x.alternative ≡ k.one = some-some x.alternative k.one (sym (at-first x xs k.at (sym f)) ∙ k.first) in
    let q : y.alternative ≡ k.other =
    some-some y.alternative k.other (sym (at-first y ys k.at (sym e ∙ sym f)) ∙ k.second) in
    let l : k.one < k.other = k.less in
    omega (arith, p, q, l)

-- where they are alike there
alike-here : (x : Decision) (xs : List Decision) (y : Decision) (ys : List Decision) → x.number ≡ y.number →
    (k : IsBefore (key_of (x ∷ xs)) (key_of (y ∷ ys))) → x.number < k.at → x.alternative ≡ y.alternative
alike-here x xs y ys e k l =
    some-some x.alternative y.alternative
    (sym (at-first x xs x.number refl) ∙ k.same x.number l ∙ at-first y ys x.number (sym e))

pub less : (xs ys : List Decision) → DoAscend xs → DoAscend ys → IsBefore (key_of xs) (key_of ys) → IsLess xs ys
less [] [] a b k = some-none k.one (sym k.first)
less [] (y ∷ ys) a b k = tt
less (x ∷ xs) [] a b k = some-none k.other (sym k.second)
less (x ∷ xs) (y ∷ ys) a b k = elim (three x.number y.number) [
  | inl l ↦ inl l
  | inr r ↦ elim r [
    | inl e ↦ inr (
      e,
      elim (three k.at x.number) [
        | inl l ↦ absurd (decided-from x xs k.at k.one a k.first l)
        | inr s ↦ elim s [
          | inl f ↦ inl (less-here x xs y ys e k f)
          | inr l ↦ inr (alike-here x xs y ys e k l, less xs ys a.1 b.1 (rest-before x xs y ys a b e k l))
        ]
      ],
    )
    | inr g ↦ absurd (greater x xs y ys a k g (three y.number k.at))
  ]
]

-- no list is less than itself, and of two at most one is less than the other
pub not-both : (xs ys : List Decision) → IsLess xs ys → ¬ IsLess ys xs
not-both [] [] l m = l
not-both [] (y ∷ ys) l m = m
not-both (x ∷ xs) [] l m = l
not-both (x ∷ xs) (y ∷ ys) (inl l) (inl m) = absurd (omega (arith, l, m))
not-both (x ∷ xs) (y ∷ ys) (inl l) (inr m) = absurd (omega (arith, l, m.0))
not-both (x ∷ xs) (y ∷ ys) (inr l) (inl m) = absurd (omega (arith, l.0, m))
not-both (x ∷ xs) (y ∷ ys) (inr (e, inl l)) (inr (f, inl m)) = absurd (omega (arith, l, m))
not-both (x ∷ xs) (y ∷ ys) (inr (e, inl l)) (inr (f, inr m)) = absurd (omega (arith, l, m.0))
not-both (x ∷ xs) (y ∷ ys) (inr (e, inr l)) (inr (f, inl m)) = absurd (omega (arith, l.0, m))
not-both (x ∷ xs) (y ∷ ys) (inr (e, inr l)) (inr (f, inr m)) = not-both xs ys l.1 m.1
