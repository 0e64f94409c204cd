use Rattle.std.proofs.Common.{◌≡◌, ◌≤◌, drop, length, map}
use Rattle.match_model.specs.Trees.{bindings_in}
use Rattle.tree_eval.specs.Nodes.{plain_bind}
use Rattle.tree_eval.specs.Views.{plain_value}
use Rattle.tree_runs.specs.Held.{held_backward}
use Rattle.tree_runs.proofs.held.all_backward.Given as goal

abbrev pub invariant-loop-left : goal.invariant-loop-left
invariant-loop-left l =
    (l.left ≤ length l.binds) ×
    (held_backward l.all.items ≡ bindings_in (plain_value l.value) (map plain_bind (drop l.left l.binds)))

abbrev pub decreases-loop-left : goal.decreases-loop-left
decreases-loop-left l = l.left
