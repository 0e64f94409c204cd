use Rattle.std.proofs.Common.{◌≤◌, length}
use Rattle.tree_runs.proofs.Ordered.{IsPassed}
use Rattle.tree_runs.proofs.held.place_for.Given as goal

abbrev pub invariant-loop-at : goal.invariant-loop-at
invariant-loop-at l = (l.at ≤ length l.all) × IsPassed l.all l.name l.at

abbrev pub decreases-loop-at : goal.decreases-loop-at
decreases-loop-at l = l.at
