use Rattle.std.proofs.Common.{◌≡◌, false, map, take}
use Rattle.decl_syntax.specs.Items.{variant_view}
use Rattle.type_names.specs.NameRules.{is_among}
use Rattle.type_names.proofs.name_rules.is_named_before.Given as goal

abbrev pub invariant-loop-other : goal.invariant-loop-other
invariant-loop-other l = is_among (variant_view l.variant).name (map (λ x. x.name) (map variant_view (take l.other-index l.before))) ≡ false
