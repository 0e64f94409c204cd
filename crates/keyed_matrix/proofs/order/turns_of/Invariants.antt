use Rattle.std.proofs.Common.{◌≡◌, All}
use Rattle.keyed_matrix.specs.Deciding.{table_decides}
use Rattle.keyed_matrix.specs.Turns.{HasKey, turn_rows}
use Rattle.keyed_matrix.proofs.order.turns_of.Given as goal

abbrev pub invariant-loop-row : goal.invariant-loop-row
invariant-loop-row g l = (turn_rows l.turns.items ≡ l.yielded) × All (HasKey (table_decides l.decisions)) l.turns.items
