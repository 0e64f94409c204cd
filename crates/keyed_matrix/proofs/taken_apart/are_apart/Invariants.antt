use Rattle.std.proofs.Common.{◌≡◌, drop}
use Rattle.keyed_matrix.specs.Steps.{are_apart}
use Rattle.keyed_matrix.specs.Views.{plain_rows}
use Rattle.keyed_matrix.proofs.taken_apart.are_apart.Given as goal

abbrev pub invariant-loop-row : goal.invariant-loop-row
invariant-loop-row g l = are_apart l.i (plain_rows (drop l.row-index l.rows)) ≡ are_apart l.i (plain_rows l.rows)
