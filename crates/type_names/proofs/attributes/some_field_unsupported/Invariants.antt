use Rattle.std.proofs.Common.{◌≡◌, false, map, take}
use Rattle.std.specs.List.{list_any}
use Rattle.decl_syntax.specs.Items.{field_view}
use Rattle.type_names.specs.Attributes.{is_unsupported}
use Rattle.type_names.proofs.attributes.some_field_unsupported.Given as goal

abbrev pub invariant-loop-field : goal.invariant-loop-field
invariant-loop-field l = list_any (λ f. is_unsupported f.attrs) (map field_view (take l.field-index l.fields)) ≡ false
