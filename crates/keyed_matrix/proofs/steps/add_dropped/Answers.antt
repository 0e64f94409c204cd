use Rattle.std.proofs.Common.{[], ◌∷◌, refl, ap, Some, None, map, sym, ◌∙◌}
use Rattle.match_model.specs.Steps.{default_head}
use Rattle.pat_context.specs.Views.{plain_place}
use Rattle.pattern_arena.specs.declared.pattern.DePat.{out-DePat}
use Rattle.pattern_arena.specs.Trees.{plain_bound}
use Rattle.keyed_matrix.specs.Views.{plain_row, plain_rows}
use Rattle.keyed_matrix.specs.Steps.{row_at}
use Rattle.keyed_matrix.proofs.RowSteps.{row-one, row-none, was-head, on-rows, no-rows, rewilded, default-wild, default-other}
use Rattle.keyed_matrix.proofs.steps.add_dropped.Goals as goal

pub returns-in-None : goal.returns-in-None
returns-in-None g c =
    let row = c.args.row.now in
    let place = plain_place c.args.place.now in
    let i = c.args.i in
    let at = was-head (plain_row row).heads i c.head_at.result None c.head_at.ensures c.in-None.is in
    on-rows c.add_rewilded.result (plain_rows c.add_rewilded.new.all.items) (plain_rows c.args.all.now.items) _ (row_at default_head place i (plain_row row))
    (row-one default_head place i row None (record { heads = []; chosen = []; binds = [] }) at refl
    ∙ ap (λ r. r ∷ []) (rewilded place i 0 (plain_row row))) c.add_rewilded.ensures

pub returns-then-is_wild : goal.returns-then-is_wild
returns-then-is_wild g c =
    let row = c.args.row.now in
    let place = plain_place c.args.place.now in
    let i = c.args.i in
    let p = c.in-Some.p.now in
    let at = was-head (plain_row row).heads i c.head_at.result (Some c.in-Some.p) c.head_at.ensures c.in-Some.is in
    on-rows c.add_replaced.result (plain_rows c.add_replaced.new.all.items) (plain_rows c.args.all.now.items) _
    (row_at default_head place i (plain_row row))
    (row-one default_head place i row (Some c.in-Some.p)
    (record { heads = []; chosen = []; binds = map plain_bound (out-DePat g.row.T.Denot p).form.now.binds.now }) at
    (default-wild p (sym c.is_wild.ensures ∙ c.if-is_wild.true))) c.add_replaced.ensures

pub returns-else-is_wild : goal.returns-else-is_wild
returns-else-is_wild g c =
    let row = c.args.row.now in
    let place = plain_place c.args.place.now in
    let i = c.args.i in
    let p = c.in-Some.p.now in
    let at = was-head (plain_row row).heads i c.head_at.result (Some c.in-Some.p) c.head_at.ensures c.in-Some.is in
    no-rows (plain_rows c.args.all.now.items) (row_at default_head place i (plain_row row))
    (row-none default_head place i row (Some c.in-Some.p) at (default-other p (sym c.is_wild.ensures ∙ c.if-is_wild.false)))
