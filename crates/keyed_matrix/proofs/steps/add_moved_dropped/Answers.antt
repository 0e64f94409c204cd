use Rattle.std.proofs.Common.{[], ◌∷◌, refl, ap, None, ◌∙◌}
use Rattle.match_model.specs.Steps.{default_head}
use Rattle.pat_context.specs.Views.{plain_place}
use Rattle.keyed_matrix.specs.Views.{plain_row, plain_rows}
use Rattle.keyed_matrix.specs.Steps.{row_at}
use Rattle.keyed_matrix.proofs.RowSteps.{row-one, was-head, on-rows, rewilded}
use Rattle.keyed_matrix.proofs.steps.add_moved_dropped.Goals as goal

pub returns-in-None : goal.returns-in-None
returns-in-None g c =
    let row = c.args.row in
    let place = plain_place c.args.place.now in
    let i = c.args.i in
    let at = was-head (plain_row row).heads i c.head_at.result None c.head_at.ensures c.in-None.is in
    on-rows c.add_moved_rewilded.result (plain_rows c.add_moved_rewilded.new.all.items) (plain_rows c.args.all.now.items) _ (row_at default_head place i (plain_row row))
    (row-one default_head place i row None (record { heads = []; chosen = []; binds = [] }) at refl
    ∙ ap (λ r. r ∷ []) (rewilded place i 0 (plain_row row))) c.add_moved_rewilded.ensures
