use Rattle.std.proofs.Common.{◌≡◌, [], false, map, take}
use Rattle.decl_syntax.specs.Items.{variant_view}
use Rattle.type_names.specs.NameRules.{repeats}
use Rattle.type_names.proofs.name_rules.few_repeat.Given as goal

abbrev pub invariant-loop-i : goal.invariant-loop-i
invariant-loop-i l = repeats [] (map (λ x. x.name) (map variant_view (take l.i l.variants))) ≡ false
