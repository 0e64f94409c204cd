use Rattle.keyed_matrix.specs.Views.{plain_rows}
use Rattle.decision_tree.specs.Repeated.{AreLeftOf}
use Rattle.decision_tree.proofs.repeated.without_repeated.Given as goal

abbrev pub invariant-loop-row : goal.invariant-loop-row
invariant-loop-row g l = AreLeftOf (plain_rows l.yielded) (plain_rows l.left.items)
