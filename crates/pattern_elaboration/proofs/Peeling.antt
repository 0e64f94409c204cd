-- References that a pattern goes through, from the outside in.
use Rattle.std.proofs.Common.{◌≡◌, ℕ, Bool, List, [], ◌∷◌, ◌++◌, map, None, refl, sym, ap, ◌∙◌}
use Rattle.std.proofs.lemmas.List.{map-append}
use Rattle.match_model.specs.declared.Mode.{Mode}
use Rattle.match_model.specs.Types.{MType, PointType}
use Rattle.match_model.specs.Constructors.{PointCtor}
use Rattle.match_model.specs.Matching.{mode_behind}
use Rattle.match_model.specs.Lists.{Every}
use Rattle.match_model.specs.ArenaPatterns.{MDePat, de_pat, no_de_pats, more_de_pats}
use Rattle.pattern_rules.specs.Builders.{Built, point, through_type}
use Rattle.pattern_rules.specs.Shown.{settled}
use Rattle.pattern_elaboration.specs.Placed.{wrapped}
use Rattle.pattern_elaboration.specs.TypeTests.{point_of}

wrapped_more : (ts : List MType) (t : MType) (p : Built) → wrapped (ts ++ t ∷ []) p ≡ wrapped ts (point t p)
wrapped_more [] t p = refl
wrapped_more (u ∷ ts) t p = ap (point u) (wrapped_more ts t p)

-- one reference more
pub peel_step : {T : Type 0} (type : T → MType) (f : MType → Mode → Built) (all : Built) (levels : List T) (here : T)
    (mutable : Bool) (u : MType) (m : Mode) →
    all ≡ wrapped (map type levels) (through_type f (type here) m) → type here ≡ PointType mutable u →
    all ≡ wrapped (map type (levels ++ here ∷ [])) (through_type f u (mode_behind mutable m))
peel_step type f all levels here mutable u m h e =
    h
    ∙ (ap (wrapped (map type levels)) (ap (λ t. through_type f t m) e
    ∙ ap (λ t. point t (through_type f u (mode_behind mutable m))) (sym e))
    ∙ (sym (wrapped_more (map type levels) (type here) (through_type f u (mode_behind mutable m)))
    ∙ ap (λ ts. wrapped ts (through_type f u (mode_behind mutable m))) (sym (map-append type levels (here ∷ [])))))

-- no reference more
pub peel_end : (f : MType → Mode → Built) (t : MType) (m : Mode) → None ≡ point_of t → through_type f t m ≡ f t m
peel_end f (PointType mutable u) m h = absurd cc
peel_end f t m h = refl

pub every_more : {A : Type 0} (P : A → Type 0) (xs : List A) (x : A) → Every P xs → P x → Every P (xs ++ x ∷ [])
every_more P [] x h k = (k, tt)
every_more P (y ∷ xs) x h k = (h.0, every_more P xs x h.1 k)

pub every_front : {A : Type 0} (P : A → Type 0) (xs : List A) (x : A) → Every P (xs ++ x ∷ []) → Every P xs × P x
every_front P [] x h = (tt, h.0)
every_front P (y ∷ xs) x h = let k = every_front P xs x h.1 in ((h.0, k.0), k.1)

-- a reference put around a pattern
pub wrap_step : {T : Type 0} (type : T → MType) (levels : List T) (t : T) (n : ℕ) (p q : MDePat T) (all : Built) →
    wrapped (map type (levels ++ t ∷ [])) (settled type 0 p) ≡ all → q ≡ de_pat PointCtor t n 0
    (more_de_pats p no_de_pats) [] →
    wrapped (map type levels) (settled type 0 q) ≡ all
wrap_step type levels t n p q all h e =
    ap (λ r. wrapped (map type levels) (settled type 0 r)) e
    ∙ (sym (wrapped_more (map type levels) (type t) (settled type 0 p))
    ∙ (ap (λ ts. wrapped ts (settled type 0 p)) (sym (map-append type levels (t ∷ []))) ∙ h))
