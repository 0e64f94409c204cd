use Rattle.std.proofs.Common.{◌-◌, length}
use Rattle.tree_eval.specs.Nodes.{tree_nodes}
use Rattle.tree_eval.specs.Views.{plain_value}
use Rattle.tree_runs.proofs.Stops.{IsAt}
use Rattle.tree_runs.proofs.run.asked.Given as goal

abbrev pub invariant-walk : goal.invariant-walk
invariant-walk l = IsAt (tree_nodes l.tree) (plain_value l.value) l.answers l.node (length l.nodes.items) l.nodes.items

abbrev pub decreases-walk : goal.decreases-walk
decreases-walk l = length (tree_nodes l.tree) - l.node
