use Rattle.std.proofs.Common.{◌<◌, ◌∙◌, length, sym, ap, subst, arith}
use Rattle.std.specs.List.{All}
use Rattle.std.proofs.lemmas.List.{length-map}
use Rattle.match_model.specs.Steps.{specialise_head, rows_at}
use Rattle.pat_context.specs.Views.{plain_ctor}
use Rattle.keyed_matrix.specs.Deciding.{table_decides}
use Rattle.keyed_matrix.specs.Steps.{AreLonger}
use Rattle.keyed_matrix.specs.Views.{plain_column, plain_rows}
use Rattle.decision_tree.specs.Cuts.{listed_at}
use Rattle.decision_tree.specs.Fronts.{IsFront}
use Rattle.decision_tree.specs.Matrices.{matrix_columns, matrix_rows}
use Rattle.decision_tree.proofs.Reading.{read-map}
use Rattle.decision_tree.proofs.Stepping.{longer-good, piece-here, piece-belongs, piece-held}
use Rattle.decision_tree.proofs.steps.entered_among.Goals as goal

pub listed_rows-requires-clause-longer : goal.listed_rows-requires-clause-longer
listed_rows-requires-clause-longer g c =
    let long = length-map c.args.m.now.columns.items plain_column in
    subst (λ rs. AreLonger c.args.i (plain_rows rs)) (sym c.deref.ensures.value)
    (longer-good (g.C.PatCx.is_type c.args.cx.now) (g.C.PatCx.context c.args.cx.now) (table_decides c.args.decisions.now) c.args.i
    (matrix_columns c.args.m.now) (matrix_rows c.args.m.now) (omega (arith, long, c.requires.within))
    c.requires.ready.ready.good)

pub listed_rows-requires-clause-within : goal.listed_rows-requires-clause-within
listed_rows-requires-clause-within g c =
    subst (λ rs. All (λ k. k < length rs) c.args.numbers.now) (sym c.deref.ensures.value) c.requires.numbers

pub over_parts-requires-clause-rows : goal.over_parts-requires-clause-rows
over_parts-requires-clause-rows g c =
    let there = read-map plain_column c.args.m.now.columns.items c.args.i c.index-column.result.now c.requires.within
    c.index-column.ensures in
    record {
      column = plain_column c.index-column.result.now;
      there = there;
      are = subst (λ n. IsFront (plain_rows c.in_ok-rows.rows.items) (rows_at (specialise_head (plain_ctor c.args.piece.now) n)
          (plain_column c.index-column.result.now).place c.args.i (matrix_rows c.args.m.now))) c.count_parts-count.ensures.value
          (subst (λ xs. IsFront xs (rows_at (specialise_head (plain_ctor c.args.piece.now) c.count_parts-count.result)
          (plain_column c.index-column.result.now).place c.args.i (matrix_rows c.args.m.now)))
          (sym (c.in_ok-rows.ensures
          ∙ ap (λ rs. listed_at (specialise_head (plain_ctor c.args.piece.now) c.count_parts-count.result)
          (plain_column c.index-column.result.now).place c.args.i (plain_rows rs) c.args.numbers.now) c.deref.ensures.value))
          (c.requires.whole c.count_parts-count.result (plain_column c.index-column.result.now).place));
    }

pub count_parts-count-requires-clause-belongs : goal.count_parts-count-requires-clause-belongs
count_parts-count-requires-clause-belongs g c =
    let there = read-map plain_column c.args.m.now.columns.items c.args.i c.index-column.result.now c.requires.within
    c.index-column.ensures in
    let here = piece-here (g.C.PatCx.context c.args.cx.now) c.args.i c.args.m.now (plain_ctor c.args.piece.now)
    (plain_column c.index-column.result.now) c.requires.piece there in
    piece-belongs (g.C.PatCx.is_type c.args.cx.now) (g.C.PatCx.context c.args.cx.now)
    (table_decides c.args.decisions.now) (g.C.PatCx.is_value c.args.cx.now) (g.met.C.PatCx.parts c.args.cx.now)
    (g.met.C.PatCx.values c.args.cx.now) c.args.i (plain_column c.index-column.result.now) (matrix_columns c.args.m.now) (matrix_rows c.args.m.now) there
    c.requires.ready.parted c.requires.ready.ready here.0 (plain_ctor c.args.piece.now) here.1 here.2

pub count_parts-count-requires-clause-held : goal.count_parts-count-requires-clause-held
count_parts-count-requires-clause-held g c =
    let there = read-map plain_column c.args.m.now.columns.items c.args.i c.index-column.result.now c.requires.within
    c.index-column.ensures in
    let here = piece-here (g.C.PatCx.context c.args.cx.now) c.args.i c.args.m.now (plain_ctor c.args.piece.now)
    (plain_column c.index-column.result.now) c.requires.piece there in
    piece-held (g.C.PatCx.is_type c.args.cx.now) (g.C.PatCx.context c.args.cx.now)
    (table_decides c.args.decisions.now) (g.C.PatCx.is_value c.args.cx.now) (g.met.C.PatCx.parts c.args.cx.now)
    (g.met.C.PatCx.values c.args.cx.now) c.args.i (plain_column c.index-column.result.now) (matrix_columns c.args.m.now) (matrix_rows c.args.m.now) there
    c.requires.ready.parted c.requires.ready.ready here.0 (plain_ctor c.args.piece.now) here.1 here.2
