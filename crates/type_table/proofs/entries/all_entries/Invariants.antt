use Rattle.std.proofs.Common.{◌≡◌, true, map, take, length}
use Rattle.std.specs.List.{list_all}
use Rattle.decl_syntax.specs.Items.{item_view}
use Rattle.type_names.specs.Views.{means_in}
use Rattle.type_table.specs.Keeping.{KeepsItems}
use Rattle.type_table.specs.Nodes.{AreNodes, Extends, types_in}
use Rattle.type_table.specs.Entries.{entry_below, entry_told, items_told}
use Rattle.type_table.proofs.entries.all_entries.Given as goal

abbrev pub invariant-loop-i : goal.invariant-loop-i
invariant-loop-i l = record {
  extends : Extends l.initial.nodes.keys l.nodes.keys;
  are : AreNodes l.nodes.keys;
  declared : KeepsItems l.names (map item_view (take l.i l.items)) l.initial.nodes.keys l.nodes.keys;
  below : list_all (entry_below (length l.nodes.keys)) l.all.items ≡ true;
  told : map (entry_told (types_in l.nodes.keys)) l.all.items ≡ items_told (means_in l.names) (map item_view (take l.i l.items));
}
