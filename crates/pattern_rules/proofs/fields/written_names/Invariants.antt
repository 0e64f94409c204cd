use Rattle.std.proofs.Common.{◌≡◌, ◌++◌, map, drop}
use Rattle.decl_syntax.specs.Patterns.{field_view, fields_from}
use Rattle.pattern_rules.specs.NodeRules.{written_names}
use Rattle.pattern_rules.proofs.fields.written_names.Given as goal

abbrev pub invariant-loop-field : goal.invariant-loop-field
invariant-loop-field l = map (λ n. n.now) l.names.items ++ written_names (fields_from (map field_view (drop l.field-index l.fields))) ≡ written_names (fields_from (map field_view l.fields))
