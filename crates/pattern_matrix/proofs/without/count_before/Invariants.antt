use Rattle.std.proofs.Common.{◌≡◌, ◌++◌, take, drop}
use Rattle.pattern_matrix.specs.Sparse.{without}
use Rattle.pattern_matrix.specs.Views.{plain_heads}
use Rattle.pattern_matrix.proofs.without.count_before.Given as goal

abbrev pub invariant-loop-i : goal.invariant-loop-i
invariant-loop-i g l =
    without l.column (plain_heads l.heads) ≡ plain_heads (take l.i l.heads) ++ without l.column (plain_heads (drop l.i l.heads))
