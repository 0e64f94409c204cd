use Rattle.std.proofs.Common.{ℕ, ◌-◌, List, length}
use Rattle.tree_eval.specs.Nodes.{tree_nodes}
use Rattle.tree_eval.specs.Views.{plain_value}
use Rattle.tree_runs.proofs.Stops.{IsAt}
use Rattle.tree_runs.proofs.run.follow.Given as goal

abbrev pub invariant-walk : goal.invariant-walk
invariant-walk l = (refused : List ℕ) × IsAt (tree_nodes l.tree) (plain_value l.value) l.answers l.node l.used refused

abbrev pub decreases-walk : goal.decreases-walk
decreases-walk l = length (tree_nodes l.tree) - l.node
