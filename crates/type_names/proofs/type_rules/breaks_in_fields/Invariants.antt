use Rattle.std.proofs.Common.{◌≡◌, true, false, map, take}
use Rattle.std.specs.List.{list_any}
use Rattle.decl_syntax.specs.Items.{field_view}
use Rattle.type_names.specs.TypeRules.{some_within}
use Rattle.type_names.specs.SomeRule.{rule_test}
use Rattle.type_names.specs.Views.{means_in}
use Rattle.type_names.proofs.type_rules.breaks_in_fields.Given as goal

abbrev pub invariant-loop-field : goal.invariant-loop-field
invariant-loop-field l = list_any (λ f. some_within (means_in l.names) (rule_test l.rule (means_in l.names)) true f.type) (map field_view (take l.field-index l.fields)) ≡ false
