use Rattle.std.proofs.Common.{◌≡◌, ◌++◌, map, drop, false, string_bytes}
use Rattle.serde_json.specs.View.{items_of}
use Rattle.serde_json.specs.Written.{items_text}
use Rattle.tree_text.specs.Trees.{node_view}
use Rattle.tree_text.specs.Reported.{node_data}
use Rattle.tree_text.proofs.node.push_nodes.Given as goal

abbrev pub invariant-loop-node : goal.invariant-loop-node
invariant-loop-node l =
    string_bytes l.text ++ items_text l.later (items_of (map node_data (map node_view (drop l.node-index l.nodes))))
    ≡ string_bytes l.initial.text ++ items_text false (items_of (map node_data (map node_view l.nodes)))
