use Rattle.std.proofs.Common.{take}
use Rattle.horn_clauses.specs.Marks.{IsClosed}
use Rattle.horn_clauses.proofs.model.open_head.Given as goal

abbrev pub invariant-loop-clause : goal.invariant-loop-clause
invariant-loop-clause l = IsClosed (take l.clause-index l.clauses) l.marks
