use Rattle.std.proofs.Common.{◌≡◌, [], false, map, take}
use Rattle.type_names.specs.NameMaps.{contains_name}
use Rattle.decl_syntax.specs.Items.{variant_view}
use Rattle.type_names.specs.NameRules.{repeats}
use Rattle.type_names.specs.Views.{among}
use Rattle.type_names.proofs.name_rules.many_repeat.Given as goal

abbrev pub invariant-loop-variant : goal.invariant-loop-variant
invariant-loop-variant l =
    (repeats [] (map (λ x. x.name) (map variant_view (take l.variant-index l.variants))) ≡ false)
    × (contains_name l.taken ≡ among (map (λ x. x.name) (map variant_view (take l.variant-index l.variants))))
