use Rattle.std.proofs.Common.{[], ◌∷◌, None, refl, ap, ◌∙◌}
use Rattle.match_model.specs.Rows.{wildcards}
use Rattle.match_model.specs.Steps.{specialise_head}
use Rattle.pat_context.specs.Views.{plain_ctor, plain_place}
use Rattle.keyed_matrix.specs.Views.{plain_row, plain_rows}
use Rattle.keyed_matrix.specs.Steps.{row_at}
use Rattle.keyed_matrix.proofs.RowSteps.{row-one, was-head, on-rows, rewilded}
use Rattle.keyed_matrix.proofs.steps.add_moved_piece_row.Goals as goal

pub returns-in-None : goal.returns-in-None
returns-in-None g c =
    let row = c.args.row in
    let place = plain_place c.args.place.now in
    let i = c.args.i in
    let n = c.args.count in
    let step = specialise_head (plain_ctor c.args.piece.now) n in
    let at = was-head (plain_row row).heads i c.head_at.result None c.head_at.ensures c.in-None.is in
    on-rows c.add_moved_rewilded.result (plain_rows c.add_moved_rewilded.new.all.items) (plain_rows c.args.all.now.items) _ (row_at step place i (plain_row row))
    (row-one step place i row None (record { heads = wildcards n; chosen = []; binds = [] }) at refl
    ∙ ap (λ r. r ∷ []) (rewilded place i n (plain_row row))) c.add_moved_rewilded.ensures
