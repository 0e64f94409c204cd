use Rattle.std.proofs.Common.{Bool, not, ◌&&◌, ◌||◌, Option, ℕ, ap, sym, ◌∙◌}
use Rattle.pattern_rules.specs.declared.Edition.{Edition}
use Rattle.pattern_rules.specs.Settings.{is_move}
use Rattle.pattern_rules.specs.OtherRules.{is_free_edition}
use Rattle.pattern_check.specs.NodeForms.{pick, standing_view}
use Rattle.pattern_check.proofs.OwnFaults.{binding_rules}
use Rattle.pattern_check.proofs.name_faults.binding_fault.Goals as goal

pub returns : goal.returns
returns c = λ by_ref mutable sub t w s at before is e tw.
    binding_rules s at (standing_view c.args.standing) t c.args.mode before c.args.name.now by_ref mutable sub
    c.name_is_twice.result c.is_taken_name.result c.args.twice c.writes_mode.result c.pick.result
    (c.name_is_twice.ensures s is) (c.is_taken_name.ensures s is) tw
    (c.writes_mode.ensures
    ∙ (ap (λ (b : Bool). not (is_free_edition c.args.edition) && (not (is_move c.args.mode) && b)) w
    ∙ ap (λ (d : Edition). not (is_free_edition d) && (not (is_move c.args.mode) && (by_ref || mutable))) (sym e)))
    (c.pick.ensures ∙ ap (λ (r : Option ℕ). pick c.name_is_twice.result 20 r) (c.pick-taken.ensures ∙ ap (λ (r : Option ℕ). pick c.is_taken_name.result 21 r) (c.pick-again.ensures ∙ ap (λ (r : Option ℕ). pick c.args.twice 30 r) c.pick-moded.ensures)))
