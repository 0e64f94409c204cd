use Rattle.std.proofs.Common.{◌≡◌, true, map, take, length}
use Rattle.std.specs.List.{list_all}
use Rattle.decl_syntax.specs.Items.{variant_view}
use Rattle.type_names.specs.Written.{variant_of}
use Rattle.type_names.specs.Views.{means_in}
use Rattle.type_table.specs.Keeping.{KeepsNamed}
use Rattle.type_table.specs.Nodes.{AreNodes, Extends, types_in}
use Rattle.type_table.specs.Entries.{variant_below, variant_entry}
use Rattle.type_table.proofs.entries.variant_entries.Given as goal

abbrev pub invariant-loop-variant : goal.invariant-loop-variant
invariant-loop-variant l = record {
  extends : Extends l.initial.nodes.keys l.nodes.keys;
  are : AreNodes l.nodes.keys;
  declared : KeepsNamed l.names l.initial.nodes.keys l.nodes.keys;
  below : list_all (variant_below (length l.nodes.keys)) l.all.items ≡ true;
  told : map (variant_entry (types_in l.nodes.keys)) l.all.items ≡ map (variant_of (means_in l.names)) (map variant_view (take l.variant-index l.variants));
}
