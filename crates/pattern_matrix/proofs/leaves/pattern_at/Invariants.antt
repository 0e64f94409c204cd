use Rattle.std.proofs.Common.{◌≡◌, drop}
use Rattle.pattern_matrix.specs.Sparse.{head_at}
use Rattle.pattern_matrix.specs.Views.{plain_heads}
use Rattle.pattern_matrix.proofs.leaves.pattern_at.Given as goal

abbrev pub invariant-loop-head : goal.invariant-loop-head
invariant-loop-head g l = head_at (plain_heads (drop l.head-index l.heads)) l.column ≡ head_at (plain_heads l.heads) l.column
