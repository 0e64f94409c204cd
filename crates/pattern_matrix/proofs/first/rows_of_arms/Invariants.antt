use Rattle.std.proofs.Common.{◌≡◌, ◌++◌, map, drop}
use Rattle.pattern_arena.specs.Trees.{plain_arm}
use Rattle.pattern_matrix.specs.Views.{plain_rows}
use Rattle.pattern_matrix.specs.Starting.{starting_rows}
use Rattle.pattern_matrix.proofs.first.rows_of_arms.Given as goal

abbrev pub invariant-loop-i : goal.invariant-loop-i
invariant-loop-i g l = plain_rows l.rows.items ++ starting_rows l.i (map plain_arm (drop l.i l.arms)) ≡ starting_rows 0 (map plain_arm l.arms)
