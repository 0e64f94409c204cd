use Rattle.std.proofs.Common.{◌≡◌, map, take}
use Rattle.keyed_matrix.specs.Views.{plain_heads}
use Rattle.decision_tree.specs.Asked.{asks}
use Rattle.decision_tree.proofs.branches.asked_columns.Given as goal

abbrev pub invariant-loop-one : goal.invariant-loop-one
invariant-loop-one g l = l.all.items ≡ map asks (plain_heads (take l.one-index l.heads))
