-- The pattern that an arm has for a witness matches just the values that the arm takes.
use Rattle.std.proofs.Common.{◌≡◌, Bool, true, false, not, Option, is_some, refl, sym, ap, ◌∙◌}
use Rattle.match_model.specs.declared.Mode.TheVariants.{Move}
use Rattle.match_model.specs.Matching.{ways}
use Rattle.match_model.specs.Patterns.{MPat}
use Rattle.pattern_rules.specs.Resolved.{resolved}
use Rattle.arm_laws.specs.Meant.{meant}
use Rattle.pattern_rules.specs.Settings.{program}
use Rattle.pattern_rules.specs.Faults.{scrutinee_type}
use Rattle.arm_maker.specs.Arms.{arm_tree}
use Rattle.arm_laws.specs.Patterns.{arm_shape, unplaced, shape_without, without_places}
use Rattle.arm_laws.specs.TakesLaws.{ArmPatternTakes}
use Rattle.arm_laws.proofs.Matched.{some}
use Rattle.arm_laws.proofs.Meaning.{meant_is_taken}
use Rattle.arm_laws.proofs.MeantClosed.{scrutinee_meant}
use Rattle.arm_laws.proofs.Offsets.{bare, bare_alike, resolved_bare}
use Rattle.arm_laws.proofs.SpelledMeant.{spelled_is_meant}

pub arm_pattern_takes : ArmPatternTakes
arm_pattern_takes s f w p once d l r e v h =
    let t = scrutinee_type s f in
    let shape = unplaced (arm_shape (arm_tree (program s) t w)) in
    let meets = spelled_is_meant s once t w (scrutinee_meant s f) d l in
    sym_alike (resolved s t p)
    ∙ ap (λ x. some (ways x Move v))
    (resolved_bare s t p ∙ ap (λ q. bare (resolved s t q)) e ∙ ap bare meets)
    ∙ bare_alike (meant (program s) t w) Move v
    ∙ meant_is_taken (program s) (not (is_some f.deref)) t w v d r h
  where
    sym_alike : (x : MPat) → some (ways x Move v) ≡ some (ways (bare x) Move v)
    sym_alike x = sym (bare_alike x Move v)
