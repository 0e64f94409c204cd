use Rattle.std.proofs.Common.{◌≡◌, map, take}
use Rattle.type_table.specs.Tables.{table_program, table_type}
use Rattle.tree_eval.specs.Nodes.{plain_node}
use Rattle.tree_text.specs.Trees.{node_view}
use Rattle.witness_names.specs.NamedTrees.{named_node}
use Rattle.witness_names.proofs.trees.name_tree.Given as goal

abbrev pub invariant-loop-node : goal.invariant-loop-node
invariant-loop-node l =
    map node_view l.nodes.items
    ≡ map (named_node (table_program l.table) (table_type l.table l.ty)) (map plain_node (take l.node-index l.tree.nodes.items))
