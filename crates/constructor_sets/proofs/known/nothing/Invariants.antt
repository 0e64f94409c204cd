use Rattle.std.proofs.Common.{◌≡◌, ℕ, None, get_or}
use Rattle.constructor_sets.proofs.known.nothing.Given as goal

abbrev pub invariant-loop : goal.invariant-loop
invariant-loop l = (n : ℕ) → get_or l.table.items n None ≡ None
