use Rattle.std.proofs.Common.{◌≡◌}
use Rattle.keyed_matrix.specs.Turns.{turn_rows}
use Rattle.keyed_matrix.proofs.order.rows_of.Given as goal

abbrev pub invariant-loop-turn : goal.invariant-loop-turn
invariant-loop-turn g l = l.rows.items ≡ turn_rows l.yielded
