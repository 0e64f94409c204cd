use Rattle.std.proofs.Common.{◌≡◌, true, map, take, length}
use Rattle.std.specs.List.{list_all}
use Rattle.decl_syntax.specs.Items.{field_view}
use Rattle.type_names.specs.Written.{field_of}
use Rattle.type_names.specs.Views.{means_in}
use Rattle.type_table.specs.Keeping.{KeepsNamed}
use Rattle.type_table.specs.Nodes.{AreNodes, Extends, types_in}
use Rattle.type_table.specs.Entries.{field_below, field_entry}
use Rattle.type_table.proofs.entries.field_entries.Given as goal

abbrev pub invariant-loop-field : goal.invariant-loop-field
invariant-loop-field l = record {
  extends : Extends l.initial.nodes.keys l.nodes.keys;
  are : AreNodes l.nodes.keys;
  declared : KeepsNamed l.names l.initial.nodes.keys l.nodes.keys;
  below : list_all (field_below (length l.nodes.keys)) l.all.items ≡ true;
  told : map (field_entry (types_in l.nodes.keys)) l.all.items ≡ map (field_of (means_in l.names)) (map field_view (take l.field-index l.fields));
}
