use Rattle.std.proofs.Common.{◌≡◌}
use Rattle.pattern_matrix.specs.Sparse.{columns_from}
use Rattle.usefulness.proofs.children.numbers_below.Given as goal

abbrev pub invariant-loop-i : goal.invariant-loop-i
invariant-loop-i l = l.numbers.items ≡ columns_from 0 l.i
