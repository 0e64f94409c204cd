use Rattle.std.proofs.Common.{◌≡◌, take}
use Rattle.type_table.specs.Edges.{node_atoms}
use Rattle.type_table.proofs.edges.part_edges.Given as goal

abbrev pub invariant-loop-part : goal.invariant-loop-part
invariant-loop-part l = record {
  atoms : l.all.items ≡ node_atoms l.count (take l.part-index l.parts);
}
