use Rattle.std.proofs.Common.{◌≡◌, map, take}
use Rattle.type_table.specs.Edges.{node_atoms}
use Rattle.type_table.proofs.edges.field_edges.Given as goal

abbrev pub invariant-loop-field : goal.invariant-loop-field
invariant-loop-field l = record {
  atoms : l.all.items ≡ node_atoms l.count (map (λ f. f.ty) (take l.field-index l.fields));
}
