use Rattle.usefulness.specs.States.{ListsHeads}
use Rattle.usefulness.proofs.choice.shortest.Given as goal

abbrev pub invariant-loop-i : goal.invariant-loop-i
invariant-loop-i g l = ListsHeads l.best l.rows
