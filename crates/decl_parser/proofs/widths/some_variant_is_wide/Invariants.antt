use Rattle.std.proofs.Common.{◌≡◌, map, drop}
use Rattle.decl_syntax.specs.Items.{variant_view}
use Rattle.decl_parser.specs.ItemWidths.{some_variant_is_wide}
use Rattle.decl_parser.proofs.widths.some_variant_is_wide.Given as goal

abbrev pub invariant-loop-variant : goal.invariant-loop-variant
invariant-loop-variant l = some_variant_is_wide (map variant_view (drop l.variant-index l.variants.items)) ≡ some_variant_is_wide (map variant_view l.variants.items)
