use Rattle.std.proofs.Common.{◌≡◌, Option, true, ◌||◌, ap, sym, ◌∙◌}
use Rattle.type_names.specs.declared.meanings.FormKind.{FormKind}
use Rattle.pattern_rules.specs.Namings.{is_unit_form, is_tuple_form}
use Rattle.pattern_rules.specs.NodeRules.{is_looked_up}
use Rattle.pattern_check.specs.NodeForms.{standing_view}
use Rattle.pattern_check.proofs.name_faults.is_taken_name.Goals as goal

pub returns-then-is_looked_up : goal.returns-then-is_looked_up
returns-then-is_looked_up c = λ s is.
    let e : is_looked_up (standing_view c.args.standing) ≡ true = sym c.is_looked_up.ensures ∙ c.if-is_looked_up.true in
    rw e (c.is_unit_or_tuple.ensures ∙ ap (λ (f : Option FormKind). is_unit_form f || is_tuple_form f) (c.name_form.ensures s is))
