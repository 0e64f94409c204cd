use Rattle.std.proofs.Common.{◌≡◌, map, drop}
use Rattle.decl_syntax.specs.Items.{field_view}
use Rattle.decl_parser.specs.ItemWidths.{some_field_is_wide}
use Rattle.decl_parser.proofs.widths.some_field_is_wide.Given as goal

abbrev pub invariant-loop-field : goal.invariant-loop-field
invariant-loop-field l = some_field_is_wide (map field_view (drop l.field-index l.fields.items)) ≡ some_field_is_wide (map field_view l.fields.items)
