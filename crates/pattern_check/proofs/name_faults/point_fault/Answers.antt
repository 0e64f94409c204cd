use Rattle.std.proofs.Common.{true, not, ◌&&◌, Option, ℕ, ap, sym, ◌∙◌}
use Rattle.type_table.specs.Tables.{table_type}
use Rattle.pattern_rules.specs.declared.Edition.{Edition}
use Rattle.pattern_rules.specs.Settings.{is_move}
use Rattle.pattern_rules.specs.OtherRules.{is_free_edition}
use Rattle.pattern_check.specs.NodeForms.{pick}
use Rattle.pattern_check.proofs.OwnFaults.{point_rules}
use Rattle.pattern_check.proofs.name_faults.point_fault.Goals as goal

pub returns : goal.returns
returns c = λ standing p twice s at before is e tw.
    point_rules s at standing (table_type c.args.table.now c.args.place.ty) c.args.place.mode before c.args.mutable p
    (not c.is_point.result) c.writes_mode.result c.pick.result (ap not c.is_point.ensures)
    (c.writes_mode.ensures ∙ ap (λ (d : Edition). not (is_free_edition d) && (not (is_move c.args.place.mode) && true)) (sym e))
    (c.pick.ensures ∙ ap (λ (r : Option ℕ). pick (not c.is_point.result) 22 r) c.pick-written.ensures)
