-- The trees that a table of nodes holds.
use Rattle.std.specs.Prelude.{List}
use Rattle.match_model.specs.DecisionTrees.{MTree}
use Rattle.tree_eval.specs.declared.table.NodeTable.{NodeTable}
use Rattle.tree_eval.specs.Tables.{node_trees, finished_nodes}

-- the trees that the nodes of the table stand for, the last one finished first
abbrev pub table_trees : NodeTable → List MTree
table_trees t = node_trees (finished_nodes t.nodes.keys)
