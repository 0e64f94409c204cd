use Rattle.std.proofs.Common.{◌≡◌, ◌++◌, drop}
use Rattle.pattern_matrix.specs.Views.{plain_leaves, plain_rows}
use Rattle.pattern_matrix.specs.Spreading.{all_apart}
use Rattle.pattern_matrix.proofs.leaves.row_leaves.Given as goal

abbrev pub invariant-loop-i : goal.invariant-loop-i
invariant-loop-i g l = plain_leaves l.leaves.items ++ all_apart l.column l.i (plain_rows (drop l.i l.rows)) ≡ all_apart l.column 0 (plain_rows l.rows)
