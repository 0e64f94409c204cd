use Rattle.std.proofs.Common.{◌≡◌, ◌≤◌, ◌++◌, map, length, IsTrue}
use Rattle.tree_sharing.specs.Table.{renumbered}
use Rattle.tree_eval.specs.Nodes.{plain_node}
use Rattle.tree_eval.specs.Tables.{finished_nodes, goes_back}
use Rattle.tree_eval.proofs.table.NodeTable.into_tree.Given as goal

abbrev pub invariant-loop-node : goal.invariant-loop-node
invariant-loop-node l =
    record {
      few : length l.left.keys ≤ l.count;
      all : l.count ≡ length l.fn.self.nodes.keys;
      back : IsTrue (goes_back (finished_nodes l.left.keys));
      made : map plain_node l.nodes.items ++ map (renumbered l.count) (finished_nodes l.left.keys) ≡ map (renumbered l.count) (finished_nodes l.fn.self.nodes.keys);
    }

abbrev pub decreases-loop-node : goal.decreases-loop-node
decreases-loop-node l = length l.left.keys
