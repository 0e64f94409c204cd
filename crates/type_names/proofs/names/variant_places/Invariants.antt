use Rattle.std.proofs.Common.{◌≡◌, map, take}
use Rattle.type_names.specs.NameMaps.{get_by_name}
use Rattle.decl_syntax.specs.Items.{variant_view}
use Rattle.type_names.specs.Views.{variant_at}
use Rattle.type_names.proofs.names.variant_places.Given as goal

abbrev pub invariant-loop-i : goal.invariant-loop-i
invariant-loop-i l = get_by_name l.places ≡ variant_at (map variant_view (take l.i l.variants))
