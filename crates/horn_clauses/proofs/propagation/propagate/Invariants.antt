use Rattle.std.proofs.Common.{◌≡◌, length}
use Rattle.horn_clauses.specs.Waiting.{IsSound}
use Rattle.horn_clauses.proofs.propagation.propagate.Given as goal

abbrev pub invariant-loop-number : goal.invariant-loop-number
invariant-loop-number l = record { sound : IsSound l.clauses l.state; len : length l.state.marks.items ≡ l.count }

abbrev pub invariant-atoms : goal.invariant-atoms
invariant-atoms l = record { sound : IsSound l.clauses l.state; len : length l.state.marks.items ≡ l.count }
