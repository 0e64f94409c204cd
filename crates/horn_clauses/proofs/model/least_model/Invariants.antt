use Rattle.std.proofs.Common.{◌≡◌, length}
use Rattle.horn_clauses.specs.Marks.{AreSound}
use Rattle.horn_clauses.proofs.Models.{unmarked}
use Rattle.horn_clauses.proofs.model.least_model.Given as goal

abbrev pub invariant-loop-head : goal.invariant-loop-head
invariant-loop-head l = record { len : length l.marks.items ≡ l.count; sound : AreSound l.clauses l.marks.items }

abbrev pub decreases-loop-head : goal.decreases-loop-head
decreases-loop-head l = unmarked l.marks.items
