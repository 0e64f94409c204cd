use Rattle.std.proofs.Common.{◌≡◌, ◌+◌, take, length}
use Rattle.keyed_matrix.specs.Views.{plain_heads}
use Rattle.keyed_matrix.proofs.heads.run_of.Given as goal

abbrev pub invariant-loop-k : goal.invariant-loop-k
invariant-loop-k g l = l.i ≡ length (plain_heads (take l.k l.heads)) + l.left
