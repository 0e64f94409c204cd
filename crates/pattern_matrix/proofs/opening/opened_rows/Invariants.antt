use Rattle.std.proofs.Common.{◌≡◌, ◌++◌, drop}
use Rattle.pattern_matrix.specs.Sparse.{leaves_listed}
use Rattle.pattern_matrix.specs.Views.{plain_rows, plain_leaves}
use Rattle.pattern_matrix.specs.Opening.{opened_rows}
use Rattle.pattern_matrix.proofs.opening.opened_rows.Given as goal

abbrev pub invariant-loop-k : goal.invariant-loop-k
invariant-loop-k g l =
    plain_rows l.opened.items ++ opened_rows l.column l.first l.count (plain_rows l.rows) (leaves_listed (plain_leaves l.leaves) (drop l.k-index l.numbers))
    ≡ opened_rows l.column l.first l.count (plain_rows l.rows) (leaves_listed (plain_leaves l.leaves) l.numbers)
