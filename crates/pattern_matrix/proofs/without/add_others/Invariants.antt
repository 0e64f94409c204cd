use Rattle.std.proofs.Common.{◌≡◌, ◌++◌, length}
use Rattle.pattern_matrix.specs.Sparse.{without}
use Rattle.pattern_matrix.specs.Views.{plain_heads}
use Rattle.pattern_matrix.proofs.without.add_others.Given as goal

abbrev pub invariant-loop-rest : goal.invariant-loop-rest
invariant-loop-rest g l =
    plain_heads l.heads.items ++ without l.column (plain_heads l.rest) ≡ plain_heads l.initial.heads.items ++ without l.column (plain_heads l.others)

abbrev pub decreases-loop-rest : goal.decreases-loop-rest
decreases-loop-rest g l = length l.rest
