use Rattle.std.proofs.Common.{◌≡◌, ◌++◌, drop, map}
use Rattle.explain_tree.specs.Nodes.{node_view}
use Rattle.explain_tree.specs.Graphs.{tree_statements}
use Rattle.explain_tree.proofs.graph.push_nodes.Given as goal

abbrev pub invariant-loop-i : goal.invariant-loop-i
invariant-loop-i l =
    l.out.items ++ tree_statements l.lines l.i (map node_view (drop l.i l.nodes))
    ≡ l.initial.out.items ++ tree_statements l.lines 0 (map node_view l.nodes)
