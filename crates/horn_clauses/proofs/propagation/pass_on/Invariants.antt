use Rattle.std.proofs.Common.{◌≡◌, ℕ, ◌<◌, length, Some}
use Rattle.horn_clauses.specs.Waiting.{IsSound}
use Rattle.horn_clauses.proofs.propagation.pass_on.Given as goal

abbrev pub invariant-chain : goal.invariant-chain
invariant-chain l = record {
  sound : IsSound l.clauses l.state;
  len : length l.state.marks.items ≡ length l.fn.state.marks.items;
  number : (n : ℕ) → l.waiting ≡ Some n → n < length l.clauses;
}
