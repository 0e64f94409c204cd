use Rattle.std.proofs.Common.{◌≡◌, take, map}
use Rattle.keyed_matrix.specs.Views.{plain_caught}
use Rattle.decision_tree.specs.KnownViews.{plain_name}
use Rattle.decision_tree.proofs.tells.known_names.Given as goal

abbrev pub invariant-loop-one : goal.invariant-loop-one
invariant-loop-one l = map plain_name l.names.items ≡ map plain_caught (take l.one-index l.caught)
