use Rattle.std.proofs.Common.{◌≡◌, false, map, take}
use Rattle.std.specs.List.{list_any}
use Rattle.decl_syntax.specs.Items.{variant_view}
use Rattle.type_names.specs.Attributes.{variant_unsupported}
use Rattle.type_names.proofs.attributes.variants_unsupported.Given as goal

abbrev pub invariant-loop-variant : goal.invariant-loop-variant
invariant-loop-variant l = list_any variant_unsupported (map variant_view (take l.variant-index l.variants)) ≡ false
