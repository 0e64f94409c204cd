use Rattle.std.proofs.Common.{◌≡◌, ◌++◌}
use Rattle.match_model.specs.Steps.{expand_head, rows_at}
use Rattle.pat_context.specs.Views.{plain_place}
use Rattle.keyed_matrix.specs.Views.{plain_rows}
use Rattle.keyed_matrix.proofs.steps.into_expanded_rows.Given as goal

abbrev pub invariant-loop-row : goal.invariant-loop-row
invariant-loop-row g l =
    (plain_rows l.all.items ≡ rows_at expand_head (plain_place l.place) l.i (plain_rows l.yielded))
    × (l.yielded ++ l.row-iterator.rest.items ≡ l.fn.rows.items)
