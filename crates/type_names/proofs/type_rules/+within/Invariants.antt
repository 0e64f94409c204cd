use Rattle.std.proofs.Common.{◌≡◌, false, map, take}
use Rattle.std.specs.List.{list_any}
use Rattle.decl_syntax.specs.Types.{type_view}
use Rattle.type_names.specs.TypeRules.{some_within}
use Rattle.type_names.specs.SomeRule.{rule_test}
use Rattle.type_names.specs.Views.{means_in}
use Rattle.type_names.proofs.type_rules.+within.Given as goal

abbrev pub invariant-some_breaks-loop-ty : goal.invariant-some_breaks-loop-ty
invariant-some_breaks-loop-ty l = list_any (some_within (means_in l.names) (rule_test l.rule (means_in l.names)) l.sized) (map type_view (take l.ty-index l.types)) ≡ false
