use Rattle.std.proofs.Common.{◌≡◌, map, take}
use Rattle.decl_syntax.specs.Items.{item_view}
use Rattle.type_names.specs.Imports.{kind_variants}
use Rattle.type_names.specs.Views.{places_of, variant_at}
use Rattle.type_names.proofs.names.all_variant_names.Given as goal

abbrev pub invariant-loop-item : goal.invariant-loop-item
invariant-loop-item l = map places_of l.all.items ≡ map (λ i. variant_at (kind_variants i.kind)) (map item_view (take l.item-index l.items))
