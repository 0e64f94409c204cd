use Rattle.std.proofs.Common.{◌≡◌, ◌++◌, map, take}
use Rattle.cycle_search.specs.Graphs.{plain_graph}
use Rattle.type_table.specs.Edges.{entry_edges}
use Rattle.type_table.proofs.edges.add_entry_edges.Given as goal

abbrev pub invariant-loop-item : goal.invariant-loop-item
invariant-loop-item l = record {
  graph : plain_graph l.edges.items ≡ plain_graph l.initial.edges.items ++ map (entry_edges l.count) (take l.item-index l.items);
}
