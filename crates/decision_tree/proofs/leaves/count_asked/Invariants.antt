use Rattle.keyed_matrix.specs.Views.{plain_rows}
use Rattle.decision_tree.specs.Asking.{AreAsked}
use Rattle.decision_tree.proofs.leaves.count_asked.Given as goal

abbrev pub invariant-loop-i : goal.invariant-loop-i
invariant-loop-i g l = AreAsked l.i (plain_rows l.rows)
