use Rattle.std.proofs.Common.{◌++◌, ◌∙◌, take, get_or, sym, ap, append-nil}
use Rattle.match_model.specs.Steps.{specialise_head}
use Rattle.pat_context.specs.Views.{plain_ctor, plain_place}
use Rattle.keyed_matrix.specs.Steps.{row_at}
use Rattle.keyed_matrix.specs.Views.{plain_row, plain_rows}
use Rattle.keyed_matrix.proofs.RowSteps.{longer-row}
use Rattle.decision_tree.specs.Cuts.{listed_at}
use Rattle.decision_tree.proofs.Cuts.{same-get, listed-more}
use Rattle.decision_tree.proofs.having.listed_rows.Goals as goal

pub add_piece_row-requires : goal.add_piece_row-requires
add_piece_row-requires g c =
    longer-row c.args.i c.args.rows.now (get_or c.args.numbers.now c.loop-k.k-index 0) c.index-rows-k.result
    c.requires.longer (c.requires.within c.loop-k.k-index 0 c.loop-k-test.true) c.index-rows-k.is

pub loop-k-preserved : goal.loop-k-preserved
loop-k-preserved g c =
    let rows = c.args.rows.now in
    let numbers = c.args.numbers.now in
    let j = c.loop-k.k-index in
    let n = get_or numbers j 0 in
    let row = c.index-rows-k.result in
    let i = c.args.i in
    let f = specialise_head (plain_ctor c.args.piece.now) c.args.count in
    let place = plain_place c.args.place.now in
    let made = row_at f place i (plain_row row) in
    c.in_ok-add_piece_row.ensures ∙ ap (λ xs. xs ++ made) c.loop-k.invariant
    ∙ ap (λ ys. listed_at f place i (plain_rows rows) (take j numbers) ++ ys) (sym (append-nil made))
    ∙ sym (listed-more f place i rows numbers j n row c.loop-k-test.true (same-get numbers j 0 n c.loop-k-test.true) (c.requires.within j 0 c.loop-k-test.true)
    c.index-rows-k.is)
