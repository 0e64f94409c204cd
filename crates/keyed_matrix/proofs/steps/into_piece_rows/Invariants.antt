use Rattle.std.proofs.Common.{◌≡◌, ◌++◌}
use Rattle.match_model.specs.Steps.{specialise_head, rows_at}
use Rattle.pat_context.specs.Views.{plain_ctor, plain_place}
use Rattle.keyed_matrix.specs.Views.{plain_rows}
use Rattle.keyed_matrix.proofs.steps.into_piece_rows.Given as goal

abbrev pub invariant-loop-row : goal.invariant-loop-row
invariant-loop-row g l =
    (plain_rows l.all.items ≡ rows_at (specialise_head (plain_ctor l.piece) l.count) (plain_place l.place) l.i (plain_rows l.yielded))
    × (l.yielded ++ l.row-iterator.rest.items ≡ l.fn.rows.items)
