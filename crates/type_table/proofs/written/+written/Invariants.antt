use Rattle.std.proofs.Common.{◌≡◌, map, take, Some}
use Rattle.std.specs.Prelude.{slice_get}
use Rattle.match_model.specs.Types.{types_list}
use Rattle.decl_syntax.specs.Types.{type_view, types_from}
use Rattle.type_names.specs.Written.{types_of}
use Rattle.type_names.specs.Views.{means_in}
use Rattle.type_table.specs.Keeping.{KeepsNamed}
use Rattle.type_table.specs.Nodes.{AreNodes, Extends, types_in}
use Rattle.type_table.proofs.written.+written.Given as goal

abbrev pub invariant-type_ids-loop-ty : goal.invariant-type_ids-loop-ty
invariant-type_ids-loop-ty l = record {
  extends : Extends l.initial.nodes.keys l.nodes.keys;
  are : AreNodes l.nodes.keys;
  declared : KeepsNamed l.names l.initial.nodes.keys l.nodes.keys;
  types_are : map (slice_get (types_in l.nodes.keys)) l.ids.items ≡ map Some (types_list (types_of (means_in l.names) l.sized (types_from (map type_view (take l.ty-index l.types)))));
}
