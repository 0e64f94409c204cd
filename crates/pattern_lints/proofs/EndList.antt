-- Ends are gathered range by range.
use Rattle.std.proofs.Common.{◌≡◌, ◌≢◌, ◌<◌, ◌≤◌, ◌⊎◌, inl, inr, ℕ, zero, suc, ◌+◌, ℤ, List, [], ◌∷◌, ◌++◌, map, length, get_or, slice_get, Some, refl, sym, ap, subst, ◌∙◌, arith}
use Rattle.std.specs.List.Sorted.{IsPermutation}
use Rattle.std.proofs.lemmas.Bool.{cases_eq}
use Rattle.std.proofs.lemmas.List.{length-map}
use Rattle.std.proofs.lemmas.List.Elements.{Contains-append_left, Contains-push, Contains-push_cases}
use Rattle.std.proofs.lemmas.List.Sorted.{IsPermutation-sym, Contains-permutation}
use Rattle.match_model.specs.Numbers.{At}
use Rattle.match_model.specs.ArenaPatterns.{MDeArm}
use Rattle.range_split.specs.Numbers.{num_value}
use Rattle.pattern_lints.specs.declared.mixing.Columns.{Columns}
use Rattle.pattern_lints.specs.declared.ends.Side.{Side}
use Rattle.pattern_lints.specs.declared.ends.RangeEnd.{RangeEnd}
use Rattle.pattern_lints.specs.Finding.{RangeView}
use Rattle.pattern_lints.specs.Ends.{end_at, IsEnd, AreEndsTo, IsBetween, IsBounded, AreBounded}
use Rattle.pattern_lints.proofs.SpotLaws.{nothing-in}

-- what a read at an index gives
pub mapped-at : {X Y : Type 0} (f : X → Y) (xs : List X) (i : ℕ) (d : X) → i < length xs → slice_get (map f xs) i ≡ Some (f (get_or xs i d))
mapped-at f [] i d l = absurd (omega (arith, l))
mapped-at f (y ∷ ys) zero d l = refl
mapped-at f (y ∷ ys) (suc i) d l = mapped-at f ys i d (omega (arith, l))

pub got-at : {X : Type 0} (xs : List X) (i : ℕ) (d : X) → i < length xs → slice_get xs i ≡ Some (get_or xs i d)
got-at [] i d l = absurd (omega (arith, l))
got-at (y ∷ ys) zero d l = refl
got-at (y ∷ ys) (suc i) d l = got-at ys i d (omega (arith, l))

pub below-mapped : {X Y : Type 0} (f : X → Y) (xs : List X) (i : ℕ) (y : Y) → slice_get (map f xs) i ≡ Some y → i < length xs
below-mapped f [] i y e = cc
below-mapped f (x ∷ xs) zero y e = omega arith
below-mapped f (x ∷ xs) (suc i) y e = let h = below-mapped f xs i y e in omega (arith, h)

pub mapped-below : {X Y : Type 0} (f : X → Y) (xs : List X) (n : ℕ) → length xs ≤ n → length (map f xs) ≤ n
mapped-below f xs n l = omega (arith, l, length-map xs f)

-- a thing at an index stands below the length
pub below-length : {X : Type 0} (xs : List X) (i : ℕ) (x : X) → slice_get xs i ≡ Some x → i < length xs
below-length [] i x e = cc
below-length (y ∷ ys) zero x e = omega arith
below-length (y ∷ ys) (suc i) x e = let h = below-length ys i x e in omega (arith, h)

-- at one index stands one thing
pub one-at : {X : Type 0} (xs : List X) (i j : ℕ) (x y : X) → i ≡ j → slice_get xs i ≡ Some x → slice_get xs j ≡ Some y → x ≡ y
one-at xs i j x y e g h = let one : Some x ≡ Some y = sym g ∙ ap (slice_get xs) e ∙ h in cc

-- below one more
pub last-or-below : (i n : ℕ) → i < n + 1 → (i < n) ⊎ (i ≡ n)
last-or-below i n l = elim (cases_eq i n) [ inl e ↦ inr e | inr apart ↦ inl (omega (arith, l, apart)) ]

pub ends-none : (side : Side) (fs : List RangeView) → AreEndsTo side fs 0 []
ends-none side fs = record { each = λ e c. absurd (nothing-in e c); all = λ i f x l. absurd (omega (arith, l)) }

-- a range without an end on the side
pub ends-pass : (side : Side) (fs : List RangeView) (n : ℕ) (ends : List RangeEnd) (f : RangeView) → slice_get fs n ≡ Some f → ((x : ℤ) → end_at side f.range ≢ At x) → AreEndsTo side fs n ends →
    AreEndsTo side fs (n + 1) ends
ends-pass side fs n ends f at none h = record {
  each = h.each;
  all = λ i g x l e end. elim (last-or-below i n l) [
    | inl before ↦ h.all i g x before e end
    | inr here ↦ let same : g ≡ f = one-at fs i n g f here e at in absurd (none x (subst (λ (y : RangeView). end_at side y.range ≡ At x) same end))
  ];
}

-- a range with one
pub ends-push : (side : Side) (fs : List RangeView) (n : ℕ) (ends : List RangeEnd) (f : RangeView) (e : RangeEnd) → slice_get fs n ≡ Some f → e.index ≡ n → f.place ≡ e.place →
    end_at side f.range ≡ At (num_value e.number) → AreEndsTo side fs n ends → AreEndsTo side fs (n + 1) (ends ++ e ∷ [])
ends-push side fs n ends f e at index place end h = record {
  each = λ m c. elim (Contains-push_cases ends e m c) [
    | inl old ↦ h.each m old
    | inr same ↦ subst (IsEnd side fs) same (record { range = f; there = ap (slice_get fs) index ∙ at; place = place; end = end })
  ];
  all = λ i g x k there is. elim (last-or-below i n k) [
    | inl before ↦ let o = h.all i g x before there is in (o.0, Contains-append_left ends (e ∷ []) o.0 o.1, o.2)
    | inr here ↦ (e, Contains-push ends e, index ∙ sym here)
  ];
}

-- the ends in another order
pub ends-moved : (side : Side) (fs : List RangeView) (n : ℕ) (ends moved : List RangeEnd) → IsPermutation ends moved → AreEndsTo side fs n ends → AreEndsTo side fs n moved
ends-moved side fs n ends moved p h = record {
  each = λ e c. h.each e (Contains-permutation moved ends e (IsPermutation-sym ends moved p) c);
  all = λ i f x l at end. let o = h.all i f x l at end in (o.0, Contains-permutation ends moved o.0 p o.1, o.2);
}

-- the ends of all ranges
pub ends-all : (side : Side) (fs : List RangeView) (n : ℕ) (ends : List RangeEnd) → length fs ≤ n → AreEndsTo side fs n ends → AreEndsTo side fs (length fs) ends
ends-all side fs n ends l h = record { each = h.each; all = λ i f x k at end. h.all i f x (omega (arith, k, l)) at end }

-- ---- what stands beside the ranges

pub bounded-none : {T : Type 0} (arms : List (MDeArm T)) (columns : List Columns) (fs : List RangeView) → AreBounded arms columns fs []
bounded-none arms columns fs = λ e c. absurd (nothing-in e c)

pub bounded-push : {T : Type 0} (arms : List (MDeArm T)) (columns : List Columns) (fs : List RangeView) (ends : List RangeEnd) (f : RangeView) (a : MDeArm T) (e : RangeEnd) → slice_get fs e.index ≡ Some f →
    slice_get arms f.arm ≡ Some a → IsBetween columns a.pat f (num_value e.from) (num_value e.to) → AreBounded arms columns fs ends → AreBounded arms columns fs (ends ++ e ∷ [])
bounded-push {T} arms columns fs ends f a e there arm between h = λ m c. elim (Contains-push_cases ends e m c) [
  | inl old ↦ h m old
  | inr same ↦ subst (IsBounded arms columns fs) same (λ g b at arm-there.
      let range : f ≡ g = one-at fs e.index e.index f g refl there at in
      let one : a ≡ b = one-at arms f.arm g.arm a b (ap (λ (y : RangeView). y.arm) range) arm arm-there in
      subst (λ (y : MDeArm T). IsBetween columns y.pat g (num_value e.from) (num_value e.to)) one
      (subst (λ (y : RangeView). IsBetween columns a.pat y (num_value e.from) (num_value e.to)) range between))
]

pub bounded-moved : {T : Type 0} (arms : List (MDeArm T)) (columns : List Columns) (fs : List RangeView) (ends moved : List RangeEnd) → IsPermutation ends moved → AreBounded arms columns fs ends →
    AreBounded arms columns fs moved
bounded-moved arms columns fs ends moved p h = λ e c. h e (Contains-permutation moved ends e (IsPermutation-sym ends moved p) c)
