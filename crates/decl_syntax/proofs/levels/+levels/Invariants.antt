use Rattle.std.proofs.Common.{◌≡◌, map, drop}
use Rattle.decl_syntax.specs.Patterns.{pattern_view, patterns_from, all_fit, field_view, fields_from, fields_fit}
use Rattle.decl_syntax.proofs.levels.+levels.Given as goal

abbrev pub invariant-all_fit-loop-item : goal.invariant-all_fit-loop-item
invariant-all_fit-loop-item l = all_fit (patterns_from (map pattern_view (drop l.item-index l.items.items))) l.levels ≡ all_fit (patterns_from (map pattern_view l.items.items)) l.levels

abbrev pub invariant-fields_fit-loop-field : goal.invariant-fields_fit-loop-field
invariant-fields_fit-loop-field l = fields_fit (fields_from (map field_view (drop l.field-index l.fields.items))) l.levels ≡ fields_fit (fields_from (map field_view l.fields.items)) l.levels
