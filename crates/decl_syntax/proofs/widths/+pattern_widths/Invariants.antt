use Rattle.std.proofs.Common.{◌≡◌, map, drop}
use Rattle.decl_syntax.specs.Patterns.{pattern_view, patterns_from, field_view, fields_from}
use Rattle.decl_syntax.specs.Widths.{some_pattern_is_wide, some_field_is_wide}
use Rattle.decl_syntax.proofs.widths.+pattern_widths.Given as goal

abbrev pub invariant-some_pattern_is_wide-loop-item : goal.invariant-some_pattern_is_wide-loop-item
invariant-some_pattern_is_wide-loop-item l = some_pattern_is_wide (patterns_from (map pattern_view (drop l.item-index l.items.items))) ≡ some_pattern_is_wide (patterns_from (map pattern_view l.items.items))

abbrev pub invariant-some_field_is_wide-loop-field : goal.invariant-some_field_is_wide-loop-field
invariant-some_field_is_wide-loop-field l = some_field_is_wide (fields_from (map field_view (drop l.field-index l.fields.items))) ≡ some_field_is_wide (fields_from (map field_view l.fields.items))
