use Rattle.std.proofs.Common.{◌≡◌, ◌++◌, map, drop}
use Rattle.match_model.specs.Matrices.{first_rows}
use Rattle.pattern_arena.specs.Trees.{plain_arm}
use Rattle.keyed_matrix.specs.Views.{plain_rows}
use Rattle.keyed_matrix.proofs.first.rows_of_arms.Given as goal

abbrev pub invariant-loop-j : goal.invariant-loop-j
invariant-loop-j g l = plain_rows l.rows.items ++ first_rows l.j (map plain_arm (drop l.j l.arms)) ≡ first_rows 0 (map plain_arm l.arms)
