use Rattle.std.proofs.Common.{sym, ◌∙◌}
use Rattle.decl_syntax.specs.Items.{field_view}
use Rattle.type_names.proofs.ItemTests.{any_found}
use Rattle.type_names.proofs.type_rules.breaks_in_fields.Goals as goal

pub returns-then-breaks_within : goal.returns-then-breaks_within
returns-then-breaks_within c =
    any_found field_view _ c.args.fields.now c.loop-field.field-index c.field-item.result c.loop-field-test.true c.field-item.is (sym c.breaks_within.ensures ∙ c.if-breaks_within.true)
