use Rattle.std.proofs.Common.{◌≡◌, ◌++◌, map, drop}
use Rattle.match_model.specs.Lowering.{ctors_at}
use Rattle.pat_context.specs.Views.{plain_ctor}
use Rattle.keyed_matrix.specs.Views.{plain_rows}
use Rattle.keyed_matrix.proofs.looking.ctors_at.Given as goal

abbrev pub invariant-loop-row : goal.invariant-loop-row
invariant-loop-row g l =
    map plain_ctor l.ctors.items ++ ctors_at l.i (plain_rows (drop l.row-index l.rows)) ≡ ctors_at l.i (plain_rows l.rows)
