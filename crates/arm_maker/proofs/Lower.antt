-- Lists of numbers of which one is lower.
use Rattle.std.proofs.Common.{◌≡◌, ◌⊎◌, inl, inr, ℤ, ◌<ℤ◌, List, [], ◌∷◌, ◌++◌, refl, sym, ap, ◌∙◌}
use Rattle.std.specs.declared.cmp.Ordering.TheVariants.{Less, Equal}
use Rattle.std.specs.Ordering.{ordering_then, int_cmp}
use Rattle.std.specs.Cmp.{int_cmp_is}
use Rattle.std.specs.Cmp.Lexicographic.{slice_cmp}

-- the first list is lower at the first number that differs, and both have a number there
abbrev pub Lower : List ℤ → List ℤ → Type 0
Lower [] ys = ⊥
Lower (x ∷ xs) [] = ⊥
Lower (x ∷ xs) (y ∷ ys) = (x <ℤ y) ⊎ ((x ≡ y) × Lower xs ys)

-- whatever stands behind
pub lower_more : (xs ys us vs : List ℤ) → Lower xs ys → Lower (xs ++ us) (ys ++ vs)
lower_more [] ys us vs l = absurd l
lower_more (x ∷ xs) [] us vs l = absurd l
lower_more (x ∷ xs) (y ∷ ys) us vs (inl l) = inl l
lower_more (x ∷ xs) (y ∷ ys) us vs (inr (e, l)) = inr (e, lower_more xs ys us vs l)

-- behind the same numbers
pub lower_behind : (xs us vs : List ℤ) → Lower us vs → Lower (xs ++ us) (xs ++ vs)
lower_behind [] us vs l = l
lower_behind (x ∷ xs) us vs l = inr (refl, lower_behind xs us vs l)

-- a lower list compares as less
pub lower_less : (xs ys : List ℤ) → Lower xs ys → slice_cmp int_cmp xs ys ≡ Less
lower_less [] ys l = absurd l
lower_less (x ∷ xs) [] l = absurd l
lower_less (x ∷ xs) (y ∷ ys) (inl l) = ap (λ o. ordering_then o (slice_cmp int_cmp xs ys)) (sym (int_cmp_is x y Less l))
lower_less (x ∷ xs) (y ∷ ys) (inr (e, l)) =
    ap (λ o. ordering_then o (slice_cmp int_cmp xs ys)) (sym (int_cmp_is x y Equal e)) ∙ lower_less xs ys l
