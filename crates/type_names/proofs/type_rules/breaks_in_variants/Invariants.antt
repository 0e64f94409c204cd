use Rattle.std.proofs.Common.{◌≡◌, false, map, take}
use Rattle.std.specs.List.{list_any}
use Rattle.decl_syntax.specs.Items.{variant_view}
use Rattle.type_names.specs.TypeRules.{some_field}
use Rattle.type_names.specs.SomeRule.{rule_test}
use Rattle.type_names.specs.Views.{means_in}
use Rattle.type_names.proofs.type_rules.breaks_in_variants.Given as goal

abbrev pub invariant-loop-variant : goal.invariant-loop-variant
invariant-loop-variant l = list_any (λ v. some_field (means_in l.names) (rule_test l.rule (means_in l.names)) v.form) (map variant_view (take l.variant-index l.variants)) ≡ false
