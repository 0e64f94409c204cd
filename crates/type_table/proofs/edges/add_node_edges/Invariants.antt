use Rattle.std.proofs.Common.{◌≡◌, ◌++◌, map, take}
use Rattle.cycle_search.specs.Graphs.{plain_graph}
use Rattle.type_table.specs.Edges.{edges_of}
use Rattle.type_table.proofs.edges.add_node_edges.Given as goal

abbrev pub invariant-loop-node : goal.invariant-loop-node
invariant-loop-node l = record {
  graph : plain_graph l.edges.items ≡ plain_graph l.initial.edges.items ++ map (edges_of l.count) (take l.node-index l.nodes);
}
