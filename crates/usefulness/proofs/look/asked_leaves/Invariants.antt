use Rattle.std.proofs.Common.{◌≡◌, ◌++◌, drop}
use Rattle.pattern_matrix.specs.Views.{plain_leaves}
use Rattle.pattern_matrix.specs.Spreading.{all_apart}
use Rattle.usefulness.specs.Frames.{rows_of}
use Rattle.usefulness.specs.States.{plain_askeds}
use Rattle.usefulness.proofs.look.asked_leaves.Given as goal

abbrev pub invariant-loop-i : goal.invariant-loop-i
invariant-loop-i g l =
    plain_leaves l.leaves.items ++ all_apart l.column l.i (rows_of (plain_askeds (drop l.i l.rows))) ≡ all_apart l.column 0 (rows_of (plain_askeds l.rows))
