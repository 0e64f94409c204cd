use Rattle.std.proofs.Common.{subst}
use Rattle.match_model.specs.DecisionTrees.{VoidTree}
use Rattle.match_model.specs.SharedTrees.{Walks}
use Rattle.tree_eval.specs.Nodes.{tree_nodes}
use Rattle.tree_eval.specs.Trees.{table_trees}
use Rattle.decision_tree.proofs.Empty.{lone-void}
use Rattle.decision_tree.proofs.top.empty_tree.Goals as goal

pub returns : goal.returns
returns c =
    lone-void (tree_nodes c.in_ok-tree.tree)
    (c.in_ok-tree.ensures VoidTree
    (subst (λ ts. Walks ts VoidTree (table_trees c.void.new.self)) c.new-table.ensures c.in_ok-void.ensures.finished.walk))
