-- From the marks and the witnesses to what judging a match promises.
use Rattle.std.proofs.Common.{◌≡◌, ◌↔◌, ℕ, Bool, true, List, [], ◌∷◌, length, refl, sym, ap, subst}
use Rattle.match_model.specs.Values.{MValue}
use Rattle.match_model.specs.Contexts.{Context}
use Rattle.match_model.specs.ContextLaws.{PartsLaw, ValuesLaw, EmptyLaw, UnsureLaw}
use Rattle.match_model.specs.Match.{is_empty_list}
use Rattle.match_model.specs.Witness.{MWitness}
use Rattle.match_model.specs.WitnessList.{IsWitnessList}
use Rattle.match_model.proofs.Basics.{untrue}
use Rattle.pattern_matrix.specs.Counting.{to_arm, through_alternative}
use Rattle.pattern_matrix.specs.SearchLaws.{JudgedByMarks}
use Rattle.pattern_matrix.proofs.HandingOn.{tell}
use Rattle.pattern_matrix.proofs.Left.{left_is}
use Rattle.pattern_matrix.proofs.NoneLeft.{exhaustive_has_none}
use Rattle.pattern_matrix.proofs.Whole.{empties_of}

empty_list : (ws : List MWitness) → (is_empty_list ws ≡ true) ↔ (ws ≡ [])
empty_list [] = ((λ e. refl), (λ e. refl))
empty_list (w ∷ ws) = ((λ e. untrue e), (λ e. ap is_empty_list e))

pub judged : {T : Type 0} (IsType : T → Type 0) (IsValue : T → Bool → MValue → Type 0) (cx : Context T) → ValuesLaw IsType IsValue cx → PartsLaw IsType IsValue cx →
    (is_empty : T → Bool) (variant_empty : T → ℕ → Bool) → EmptyLaw IsType IsValue cx is_empty variant_empty → UnsureLaw IsType IsValue → JudgedByMarks IsType IsValue cx
judged IsType IsValue cx values law is_empty variant_empty empty unsure m is_marked ws w y r some none =
    let behind = is_marked (to_arm (length m.arms)) in
    let listed : IsWitnessList cx IsValue m ws =
    tell behind some (λ e. subst (IsWitnessList cx IsValue m) (sym (none e)) (exhaustive_has_none IsType IsValue cx values law is_empty variant_empty empty unsure m w y (r.behind e))) in
    let told = empties_of IsType IsValue cx values law m ws (record { typed = w; made = y; listed = listed }) in
    record {
      tells = ((λ e. told.1 ((empty_list ws).0 e)), (λ x. (empty_list ws).1 (told.0 x)));
      list = (left_is IsValue m (λ j. is_marked (to_arm j)) (λ j id. is_marked (through_alternative j id)) r.exact).1;
      witness_list = listed;
    }
