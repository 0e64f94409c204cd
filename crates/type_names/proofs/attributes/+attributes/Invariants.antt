use Rattle.std.proofs.Common.{◌≡◌, false, map, take}
use Rattle.std.specs.List.{list_any}
use Rattle.decl_syntax.specs.Patterns.{pattern_view, field_view}
use Rattle.type_names.specs.Attributes.{pattern_unsupported, field_unsupported}
use Rattle.type_names.proofs.attributes.+attributes.Given as goal

abbrev pub invariant-some_unsupported-loop-pattern : goal.invariant-some_unsupported-loop-pattern
invariant-some_unsupported-loop-pattern l = list_any pattern_unsupported (map pattern_view (take l.pattern-index l.patterns)) ≡ false

abbrev pub invariant-fields_unsupported-loop-field : goal.invariant-fields_unsupported-loop-field
invariant-fields_unsupported-loop-field l = list_any field_unsupported (map field_view (take l.field-index l.fields)) ≡ false
