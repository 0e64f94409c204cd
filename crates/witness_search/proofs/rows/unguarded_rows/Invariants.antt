use Rattle.std.proofs.Common.{◌≡◌, map, take}
use Rattle.pattern_arena.specs.Trees.{plain_arm}
use Rattle.pattern_matrix.specs.Views.{plain_rows}
use Rattle.witness_search.specs.Starts.{starting_rows}
use Rattle.witness_search.proofs.rows.unguarded_rows.Given as goal

abbrev pub invariant-loop-arm : goal.invariant-loop-arm
invariant-loop-arm g l = plain_rows l.rows.items ≡ starting_rows (map plain_arm (take l.arm-index l.arms))
