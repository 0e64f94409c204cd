use Rattle.std.proofs.Common.{◌≡◌, ◌++◌, List, length, map}
use Rattle.match_model.specs.DecisionTrees.{by_name}
use Rattle.match_model.specs.Trees.{MBind}
use Rattle.tree_eval.specs.Nodes.{plain_bind}
use Rattle.decision_tree.proofs.binds.ascending.Given as goal

abbrev pub invariant-loop-bind : goal.invariant-loop-bind
invariant-loop-bind l =
    (done : List MBind) × (map plain_bind l.all.items ≡ by_name done)
    × (map plain_bind l.left.items ++ done ≡ map plain_bind l.fn.binds.items)

abbrev pub decreases-loop-bind : goal.decreases-loop-bind
decreases-loop-bind l = length l.left.items
