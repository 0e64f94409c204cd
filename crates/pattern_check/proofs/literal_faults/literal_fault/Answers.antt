use Rattle.std.proofs.Common.{not, Option, ℕ, ap, ◌∙◌}
use Rattle.match_model.specs.Types.{MType}
use Rattle.decl_syntax.specs.Patterns.{lit_view}
use Rattle.type_table.specs.Tables.{table_type}
use Rattle.pattern_rules.specs.Literals.{is_outside}
use Rattle.pattern_rules.specs.NodeRules.{literal_fits}
use Rattle.pattern_check.specs.NodeForms.{pick}
use Rattle.pattern_check.proofs.OwnFaults.{literal_refused, literal_other}
use Rattle.pattern_check.proofs.literal_faults.literal_fault.Goals as goal

pub returns-then-is_refused : goal.returns-then-is_refused
returns-then-is_refused c = λ edition standing m twice s at before is e tw.
    literal_refused s at standing (table_type c.args.table.now c.args.ty) m before (lit_view c.args.lit.now) c.if-is_refused.ensures

pub returns : goal.returns
returns c = λ edition standing m twice s at before is e tw.
    let t = table_type c.args.table.now c.args.ty in
    let l = lit_view c.args.lit.now in
    literal_other s at standing t m before l c.literal_fits.result c.number_outside.result c.pick.result c.if-is_refused.ensures
    (c.literal_fits.ensures ∙ ap (λ (u : MType). literal_fits l t u) c.bottom_type-met.ensures.is)
    (c.number_outside.ensures s is ∙ ap (λ (u : MType). is_outside s.width u l) c.bottom_type-met.ensures.is)
    (c.pick.ensures ∙ ap (λ (r : Option ℕ). pick (not c.literal_fits.result) 22 r) c.pick-outside.ensures)
