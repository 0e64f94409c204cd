-- Columns side by side.
use Rattle.std.proofs.Common.{◌≡◌, ℕ, zero, suc, ◌+◌, Bool, true, List, [], ◌∷◌, ◌++◌, map, refl, ap, sym, ◌∙◌, arith, rules}
use Rattle.std.proofs.lemmas.List.{map-append}
use Rattle.std.specs.Cmp.Lexicographic.{pointwise}
use Rattle.match_model.specs.Places.{MStep, ThroughStep, FieldStep, FrontStep, BackStep, MiddleStep}
use Rattle.pat_context.specs.declared.place.Step.{Step}
use Rattle.pat_context.specs.contracts.place.StepPartialEq.TheImpl as step_eq
use Rattle.pat_context.specs.declared.validity.Validity.{Validity}
use Rattle.pat_context.specs.contracts.validity.ValidityPartialEq.TheImpl as validity_eq
use Rattle.pat_context.specs.Views.{plain_step, plain_place, is_sure}
use Rattle.tree_eval.proofs.Pointwise.{pointwise-map}
use Rattle.decision_tree.specs.KnownViews.{step_after, place_after, known_columns_from}

-- the place of the first
step-itself : (s : MStep) → step_after s 0 ≡ s
step-itself ThroughStep = refl
step-itself (FieldStep v k) = let e : k + 0 ≡ k = omega arith in ap (FieldStep v) e
step-itself (FrontStep k) = let e : k + 0 ≡ k = omega arith in ap FrontStep e
step-itself (BackStep k) = refl
step-itself (MiddleStep f b) = refl

place-itself : (p : List MStep) → place_after p 0 ≡ p
place-itself [] = refl
place-itself (s ∷ []) = ap (λ x. x ∷ []) (step-itself s)
place-itself (s ∷ t ∷ p) = ap (λ xs. s ∷ xs) (place-itself (t ∷ p))

-- one column
pub one-column : (p : List MStep) (sure : Bool) → known_columns_from p sure 0 1 ≡ record { place = p; sure = sure } ∷ []
one-column p sure = ap (λ q. record { place = q; sure = sure } ∷ []) (place-itself p)

-- the place after so many, by its last step
place-last : (p : List MStep) (s : MStep) (n : ℕ) → place_after (p ++ s ∷ []) n ≡ p ++ step_after s n ∷ []
place-last [] s n = refl
place-last (t ∷ []) s n = refl
place-last (t ∷ u ∷ p) s n = ap (λ xs. t ∷ xs) (place-last (u ∷ p) s n)

-- one column more
columns-more : (p : List MStep) (sure : Bool) (first n : ℕ) → known_columns_from p sure first (suc n)
    ≡ known_columns_from p sure first n ++ record { place = place_after p (first + n); sure = sure } ∷ []
columns-more p sure first zero =
    let e : first ≡ first + 0 = omega arith in ap (λ k. record { place = place_after p k; sure = sure } ∷ []) e
columns-more p sure first (suc n) =
    let e : suc first + n ≡ first + suc n = omega arith in
    ap (λ cs. record { place = place_after p first; sure = sure } ∷ cs) (columns-more p sure (suc first) n
    ∙ ap (λ k. known_columns_from p sure (suc first) n ++ record { place = place_after p k; sure = sure } ∷ []) e)

-- columns with the one after them
pub columns-go-on : (p next : List MStep) (s sure : Bool) (n : ℕ) → s ≡ sure → place_after p n ≡ next →
    known_columns_from p s 0 (n + 1) ≡ known_columns_from p s 0 n ++ record { place = next; sure = sure } ∷ []
columns-go-on p next s sure n e h =
    let more : n + 1 ≡ suc n = omega arith in
    let none : 0 + n ≡ n = omega arith in
    ap (known_columns_from p s 0) more ∙ columns-more p s 0 n
    ∙ (λ i. known_columns_from p s 0 n ++ record { place = (ap (place_after p) none ∙ h) i; sure = e i } ∷ [])

-- what the derived test finds equal is one
same-step : (a b : Step) → step_eq.ghosts.eq a b ≡ true → plain_step a ≡ plain_step b
same-step a b h = let e : a ≡ b = search (rules, h) in ap plain_step e

pub same-validity : (a b : Validity) → validity_eq.ghosts.eq a b ≡ true → is_sure a ≡ is_sure b
same-validity a b h = let e : a ≡ b = search (rules, h) in ap is_sure e

pub same-place : (a b : List Step) → pointwise (λ x y. step_eq.ghosts.eq x y) a b ≡ true →
    map plain_step a ≡ map plain_step b
same-place a b h = pointwise-map (λ x y. step_eq.ghosts.eq x y) plain_step a b same-step h

-- a place that differs from the first in its last step alone, which is so many after
pub place-goes-on : (first next before around : List Step) (last other : Step) (n : ℕ) → first ≡ before ++ last ∷ [] →
    next ≡ around ++ other ∷ [] → step_after (plain_step last) n ≡ plain_step other →
    map plain_step before ≡ map plain_step around → place_after (plain_place first) n ≡ plain_place next
place-goes-on first next before around last other n f g h e =
    ap (λ s. place_after (plain_place s) n) f
    ∙ ap (λ s. place_after s n) (map-append plain_step before (last ∷ []))
    ∙ place-last (map plain_step before) (plain_step last) n
    ∙ (λ i. e i ++ h i ∷ [])
    ∙ sym (ap plain_place g ∙ map-append plain_step around (other ∷ []))
