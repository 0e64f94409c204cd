use Rattle.std.proofs.Common.{◌≡◌, ◌++◌, map, take, Some}
use Rattle.pattern_arena.specs.Trees.{tree}
use Rattle.keyed_matrix.specs.Views.{plain_heads}
use Rattle.keyed_matrix.proofs.steps.add_subs.Given as goal

abbrev pub invariant-loop-p : goal.invariant-loop-p
invariant-loop-p g l = plain_heads l.heads.items ≡ plain_heads l.initial.heads.items ++ map (λ p. Some (tree p)) (take l.p-index l.subs)
