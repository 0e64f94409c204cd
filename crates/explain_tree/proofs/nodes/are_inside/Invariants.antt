use Rattle.std.proofs.Common.{◌≡◌, drop, map}
use Rattle.std.specs.List.{list_all}
use Rattle.explain_tree.specs.Nodes.{node_view, is_node_inside}
use Rattle.explain_tree.proofs.nodes.are_inside.Given as goal

abbrev pub invariant-loop-node : goal.invariant-loop-node
invariant-loop-node l =
    list_all (is_node_inside l.count) (map node_view (drop l.node-index l.nodes)) ≡ list_all (is_node_inside l.count) (map node_view l.nodes)
