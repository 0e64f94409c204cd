use Rattle.std.proofs.Common.{[], ◌∷◌, refl, Some, None}
use Rattle.match_model.specs.Steps.{expand_head}
use Rattle.match_model.specs.Rows.{choices_of}
use Rattle.pat_context.specs.Views.{plain_place}
use Rattle.pattern_arena.specs.Trees.{tree}
use Rattle.keyed_matrix.specs.Views.{plain_row, plain_rows}
use Rattle.keyed_matrix.specs.Steps.{row_at, chosen_rows}
use Rattle.keyed_matrix.proofs.RowSteps.{row-one, row-chosen, was-head, on-rows}
use Rattle.keyed_matrix.proofs.steps.add_expanded.Goals as goal

pub returns-in-None : goal.returns-in-None
returns-in-None g c =
    let row = c.args.row.now in
    let place = plain_place c.args.place.now in
    let i = c.args.i in
    let at = was-head (plain_row row).heads i c.head_at.result None c.head_at.ensures c.in-None.is in
    on-rows c.add_replaced.result (plain_rows c.add_replaced.new.all.items) (plain_rows c.args.all.now.items) _ (row_at expand_head place i (plain_row row))
    (row-one expand_head place i row None (record { heads = None ∷ []; chosen = []; binds = [] }) at refl) c.add_replaced.ensures

pub returns-in-Some : goal.returns-in-Some
returns-in-Some g c =
    let row = c.args.row.now in
    let place = plain_place c.args.place.now in
    let i = c.args.i in
    let at = was-head (plain_row row).heads i c.head_at.result (Some c.in-Some.p) c.head_at.ensures c.in-Some.is in
    on-rows c.add_chosen.result (plain_rows c.add_chosen.new.all.items) (plain_rows c.args.all.now.items)
    (chosen_rows place i (plain_row row) (choices_of (tree c.in-Some.p.now))) (row_at expand_head place i (plain_row row))
    (row-chosen place i row c.in-Some.p at) c.add_chosen.ensures
