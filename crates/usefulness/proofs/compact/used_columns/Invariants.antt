use Rattle.std.proofs.Common.{◌≡◌, ◌||◌, ℕ, false, drop, get_or, length}
use Rattle.usefulness.specs.Compact.{some_lists}
use Rattle.usefulness.specs.States.{plain_askeds}
use Rattle.usefulness.proofs.compact.used_columns.Given as goal

abbrev pub invariant-loop-asked : goal.invariant-loop-asked
invariant-loop-asked g l =
    (length l.used.items ≡ l.next)
    × ((c : ℕ) → (get_or l.used.items c false || some_lists (plain_askeds (drop l.asked-index l.rows)) c) ≡ some_lists (plain_askeds l.rows) c)
