use Rattle.std.proofs.Common.{◌≡◌, ◌++◌, take, map}
use Rattle.keyed_matrix.specs.Views.{plain_caught}
use Rattle.tree_eval.specs.Nodes.{plain_bind}
use Rattle.decision_tree.proofs.binds.add_caught.Given as goal

abbrev pub invariant-loop-one : goal.invariant-loop-one
invariant-loop-one l =
    map plain_bind l.all.items ≡ map plain_bind l.initial.all.items ++ map plain_caught (take l.one-index l.caught)
