use Rattle.std.proofs.Common.{◌≡◌, true, rules}
use Rattle.decl_syntax.specs.Items.{field_view}
use Rattle.type_names.specs.Attributes.{is_unsupported}
use Rattle.type_names.proofs.ItemTests.{any_found}
use Rattle.type_names.proofs.attributes.some_field_unsupported.Goals as goal

pub returns-then-is_unsupported : goal.returns-then-is_unsupported
returns-then-is_unsupported c =
    let here : is_unsupported (field_view c.field-item.result).attrs ≡ true = search rules in
    any_found field_view (λ f. is_unsupported f.attrs) c.args.fields.now c.loop-field.field-index c.field-item.result c.loop-field-test.true c.field-item.is here
