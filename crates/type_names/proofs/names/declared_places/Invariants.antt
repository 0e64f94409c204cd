use Rattle.std.proofs.Common.{◌≡◌, map, take}
use Rattle.type_names.specs.NameMaps.{get_by_name}
use Rattle.decl_syntax.specs.Items.{item_view}
use Rattle.type_names.specs.Meanings.{declared_at}
use Rattle.type_names.proofs.names.declared_places.Given as goal

abbrev pub invariant-loop-i : goal.invariant-loop-i
invariant-loop-i l = get_by_name l.places ≡ declared_at (map item_view (take l.i l.items))
