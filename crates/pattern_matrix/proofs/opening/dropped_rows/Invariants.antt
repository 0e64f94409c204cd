use Rattle.std.proofs.Common.{◌≡◌, ◌++◌, drop}
use Rattle.pattern_matrix.specs.Views.{plain_rows, plain_leaves}
use Rattle.pattern_matrix.specs.Opening.{dropped_rows}
use Rattle.pattern_matrix.proofs.opening.dropped_rows.Given as goal

abbrev pub invariant-loop-leaf : goal.invariant-loop-leaf
invariant-loop-leaf g l =
    plain_rows l.dropped.items ++ dropped_rows l.column (plain_rows l.rows) (plain_leaves (drop l.leaf-index l.leaves)) ≡ dropped_rows l.column (plain_rows l.rows) (plain_leaves l.leaves)
