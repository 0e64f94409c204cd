use Rattle.std.proofs.Common.{◌≡◌, ◌+◌, ◌++◌, map, drop, Some}
use Rattle.pattern_arena.specs.Trees.{tree}
use Rattle.pattern_matrix.specs.Sparse.{listed}
use Rattle.pattern_matrix.specs.Views.{plain_heads}
use Rattle.pattern_matrix.proofs.opening.add_subs.Given as goal

abbrev pub invariant-loop-i : goal.invariant-loop-i
invariant-loop-i g l =
    plain_heads l.heads.items ++ listed (l.first + l.i) (map (λ p. Some (tree p)) (drop l.i l.subs))
    ≡ plain_heads l.initial.heads.items ++ listed l.first (map (λ p. Some (tree p)) l.subs)
