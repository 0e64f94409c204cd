use Rattle.std.proofs.Common.{take}
use Rattle.horn_clauses.specs.Marks.{HoldsThroughout}
use Rattle.horn_clauses.proofs.model.holds_throughout.Given as goal

abbrev pub invariant-loop-atom : goal.invariant-loop-atom
invariant-loop-atom l = HoldsThroughout l.marks (take l.atom-index l.body)
