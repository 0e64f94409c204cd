use Rattle.std.proofs.Common.{◌≡◌, false, map, take}
use Rattle.std.specs.List.{list_any}
use Rattle.decl_syntax.specs.Items.{variant_view}
use Rattle.type_names.specs.NameRules.{form_has_field_twice}
use Rattle.type_names.proofs.name_rules.some_variant_repeats.Given as goal

abbrev pub invariant-loop-variant : goal.invariant-loop-variant
invariant-loop-variant l = list_any (λ v. form_has_field_twice v.form) (map variant_view (take l.variant-index l.variants)) ≡ false
