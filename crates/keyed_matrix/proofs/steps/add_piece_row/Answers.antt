use Rattle.std.proofs.Common.{[], ◌∷◌, Some, None, map, refl, sym, ap, ◌∙◌}
use Rattle.match_model.specs.Rows.{wildcards}
use Rattle.match_model.specs.Steps.{specialise_head}
use Rattle.pat_context.specs.Views.{plain_ctor, plain_place}
use Rattle.pattern_arena.specs.declared.pattern.DePat.{out-DePat}
use Rattle.pattern_arena.specs.Trees.{plain_bound}
use Rattle.keyed_matrix.specs.Views.{plain_heads, plain_row, plain_rows}
use Rattle.keyed_matrix.specs.Steps.{row_at}
use Rattle.keyed_matrix.proofs.RowSteps.{row-one, row-none, was-head, on-rows, no-rows, of_heads, rewilded, specialised-has, specialised-lacks}
use Rattle.keyed_matrix.proofs.steps.add_piece_row.Goals as goal

pub returns-in-None : goal.returns-in-None
returns-in-None g c =
    let row = c.args.row.now in
    let place = plain_place c.args.place.now in
    let i = c.args.i in
    let n = c.args.count in
    let step = specialise_head (plain_ctor c.args.piece.now) n in
    let at = was-head (plain_row row).heads i c.head_at.result None c.head_at.ensures c.in-None.is in
    on-rows c.add_rewilded.result (plain_rows c.add_rewilded.new.all.items) (plain_rows c.args.all.now.items) _ (row_at step place i (plain_row row))
    (row-one step place i row None (record { heads = wildcards n; chosen = []; binds = [] }) at refl
    ∙ ap (λ r. r ∷ []) (rewilded place i n (plain_row row))) c.add_rewilded.ensures

pub returns-in_ok-heads-in-Some : goal.returns-in_ok-heads-in-Some
returns-in_ok-heads-in-Some g c =
    let row = c.args.row.now in
    let place = plain_place c.args.place.now in
    let i = c.args.i in
    let p = c.in-Some.p.now in
    let binds = map plain_bound (out-DePat g.row.T.Denot p).form.now.binds.now in
    let step = specialise_head (plain_ctor c.args.piece.now) c.args.count in
    let at = was-head (plain_row row).heads i c.head_at.result (Some c.in-Some.p) c.head_at.ensures c.in-Some.is in
    let heads = ap plain_heads c.deref.ensures.value ∙ c.in_ok-heads-in-Some.ensures in
    on-rows c.add_replaced.result (plain_rows c.add_replaced.new.all.items) (plain_rows c.args.all.now.items) _
    (row_at step place i (plain_row row))
    (row-one step place i row (Some c.in-Some.p)
    (record { heads = plain_heads c.deref.result.now; chosen = []; binds = binds }) at
    (specialised-has (plain_ctor c.args.piece.now) c.args.count p (sym c.has_piece.ensures ∙ c.if-has_piece.true)
    ∙ ap (of_heads binds) (sym heads))) c.add_replaced.ensures

pub returns-else-has_piece : goal.returns-else-has_piece
returns-else-has_piece g c =
    let row = c.args.row.now in
    let place = plain_place c.args.place.now in
    let i = c.args.i in
    let p = c.in-Some.p.now in
    let step = specialise_head (plain_ctor c.args.piece.now) c.args.count in
    let at = was-head (plain_row row).heads i c.head_at.result (Some c.in-Some.p) c.head_at.ensures c.in-Some.is in
    no-rows (plain_rows c.args.all.now.items) (row_at step place i (plain_row row))
    (row-none step place i row (Some c.in-Some.p) at
    (specialised-lacks (plain_ctor c.args.piece.now) c.args.count p (sym c.has_piece.ensures ∙ c.if-has_piece.false)))
