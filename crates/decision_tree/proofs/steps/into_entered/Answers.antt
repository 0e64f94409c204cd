use Rattle.std.proofs.Common.{◌∙◌, inl, sym, ap, subst, arith}
use Rattle.std.proofs.lemmas.List.{length-map}
use Rattle.match_model.specs.Steps.{specialise_head, rows_at, replaced_at}
use Rattle.pat_context.specs.Views.{plain_ctor}
use Rattle.keyed_matrix.specs.Deciding.{table_decides}
use Rattle.keyed_matrix.specs.Views.{plain_column, plain_rows, plain_columns}
use Rattle.decision_tree.specs.Fronts.{IsFront}
use Rattle.decision_tree.specs.Matrices.{matrix_columns, matrix_rows}
use Rattle.decision_tree.proofs.Reading.{read-map}
use Rattle.decision_tree.proofs.Stepping.{longer-good, piece-here, piece-belongs, piece-held, piece-type, entered-good, entered-parted}
use Rattle.match_model.specs.Matrices.{part_columns}
use Rattle.keyed_rows.specs.Parting.{RowParted}
use Rattle.keyed_steps.specs.Good.{IsGood}
use Rattle.decision_tree.proofs.Fronts.{front-good, front-ordered}
use Rattle.decision_tree.proofs.StillInOrder.{entered-in-order}
use Rattle.decision_tree.proofs.steps.into_entered.Goals as goal

pub into_piece_rows-requires : goal.into_piece_rows-requires
into_piece_rows-requires g c =
    let long = length-map c.args.m.columns.items plain_column in
    longer-good (g.C.PatCx.is_type c.args.cx.now) (g.C.PatCx.context c.args.cx.now) (table_decides c.args.decisions.now) c.args.i
    (matrix_columns c.args.m) (matrix_rows c.args.m) (omega (arith, long, c.requires.within)) c.requires.ready.ready.good

pub count_parts-count-requires-clause-belongs : goal.count_parts-count-requires-clause-belongs
count_parts-count-requires-clause-belongs g c =
    let there = read-map plain_column c.args.m.columns.items c.args.i c.index-column.result.now c.requires.within
    c.index-column.ensures in
    let here = piece-here (g.C.PatCx.context c.args.cx.now) c.args.i c.args.m (plain_ctor c.args.piece.now)
    (plain_column c.index-column.result.now) c.requires.piece there in
    piece-belongs (g.C.PatCx.is_type c.args.cx.now) (g.C.PatCx.context c.args.cx.now)
    (table_decides c.args.decisions.now) (g.C.PatCx.is_value c.args.cx.now) (g.met.C.PatCx.parts c.args.cx.now)
    (g.met.C.PatCx.values c.args.cx.now) c.args.i (plain_column c.index-column.result.now) (matrix_columns c.args.m) (matrix_rows c.args.m) there
    c.requires.ready.parted c.requires.ready.ready here.0 (plain_ctor c.args.piece.now) here.1 here.2

pub count_parts-count-requires-clause-held : goal.count_parts-count-requires-clause-held
count_parts-count-requires-clause-held g c =
    let there = read-map plain_column c.args.m.columns.items c.args.i c.index-column.result.now c.requires.within
    c.index-column.ensures in
    let here = piece-here (g.C.PatCx.context c.args.cx.now) c.args.i c.args.m (plain_ctor c.args.piece.now)
    (plain_column c.index-column.result.now) c.requires.piece there in
    piece-held (g.C.PatCx.is_type c.args.cx.now) (g.C.PatCx.context c.args.cx.now)
    (table_decides c.args.decisions.now) (g.C.PatCx.is_value c.args.cx.now) (g.met.C.PatCx.parts c.args.cx.now)
    (g.met.C.PatCx.values c.args.cx.now) c.args.i (plain_column c.index-column.result.now) (matrix_columns c.args.m) (matrix_rows c.args.m) there
    c.requires.ready.parted c.requires.ready.ready here.0 (plain_ctor c.args.piece.now) here.1 here.2

pub returns-clause-entered : goal.returns-clause-entered
returns-clause-entered g c =
    let there = read-map plain_column c.args.m.columns.items c.args.i c.index-column.result.now c.requires.within
    c.index-column.ensures in
    let columns = c.in_ok-columns.ensures
    ∙ ap (λ cs. replaced_at c.args.i (plain_columns cs) (part_columns (g.C.PatCx.context c.args.cx.now)
    (plain_column c.index-column.result.now) (plain_ctor c.args.piece.now))) c.deref.ensures.value in
    record {
      column = plain_column c.index-column.result.now;
      there = there;
      columns = columns;
      whole = rows_at (specialise_head (plain_ctor c.args.piece.now)
          ((g.C.PatCx.context c.args.cx.now).arity (plain_ctor c.args.piece.now) c.index-column.result.now.ty))
          (plain_column c.index-column.result.now).place c.args.i (matrix_rows c.args.m);
      rows = entered-in-order (table_decides c.args.decisions.now) (plain_ctor c.args.piece.now)
          ((g.C.PatCx.context c.args.cx.now).arity (plain_ctor c.args.piece.now) c.index-column.result.now.ty)
          (plain_column c.index-column.result.now).place c.args.i (matrix_rows c.args.m) c.requires.ready.parted;
      front = inl (c.in_ok-rows.ensures
          ∙ ap (λ n. rows_at (specialise_head (plain_ctor c.args.piece.now) n) (plain_column c.index-column.result.now).place c.args.i
          (matrix_rows c.args.m)) c.count_parts-count.ensures.value);
    }

pub returns-clause-good : goal.returns-clause-good
returns-clause-good g c =
    let context = g.C.PatCx.context c.args.cx.now in
    let decides = table_decides c.args.decisions.now in
    let p = plain_ctor c.args.piece.now in
    let column = plain_column c.index-column.result.now in
    let there = read-map plain_column c.args.m.columns.items c.args.i c.index-column.result.now c.requires.within
    c.index-column.ensures in
    let here = piece-here context c.args.i c.args.m p column c.requires.piece there in
    let rows = plain_rows c.in_ok-rows.rows.items in
    let whole = rows_at (specialise_head p (context.arity p column.type)) column.place c.args.i (matrix_rows c.args.m) in
    let front : IsFront rows whole = inl (c.in_ok-rows.ensures
    ∙ ap (λ n. rows_at (specialise_head (plain_ctor c.args.piece.now) n) (plain_column c.index-column.result.now).place c.args.i
    (matrix_rows c.args.m)) c.count_parts-count.ensures.value) in
    let columns = c.in_ok-columns.ensures
    ∙ ap (λ cs. replaced_at c.args.i (plain_columns cs) (part_columns context column p)) c.deref.ensures.value in
    let order = entered-in-order decides p (context.arity p column.type) column.place c.args.i (matrix_rows c.args.m)
    c.requires.ready.parted in
    record {
      good =
          subst (λ cs. IsGood (g.C.PatCx.is_type c.args.cx.now) context decides cs rows) (sym columns)
          (front-good context (g.C.PatCx.is_type c.args.cx.now) decides
          (replaced_at c.args.i (matrix_columns c.args.m) (part_columns context column p)) rows whole front
          (entered-good (g.C.PatCx.is_type c.args.cx.now) context decides (g.C.PatCx.is_value c.args.cx.now)
          (g.met.C.PatCx.parts c.args.cx.now) (g.met.C.PatCx.values c.args.cx.now) c.args.i column
          (matrix_columns c.args.m) (matrix_rows c.args.m) there c.requires.ready.parted c.requires.ready.ready
          here.0 p here.1 here.2 whole order));
      parted =
          front-ordered (RowParted decides) rows whole front
          (entered-parted (g.C.PatCx.is_type c.args.cx.now) context decides (g.C.PatCx.is_value c.args.cx.now)
          (g.met.C.PatCx.parts c.args.cx.now) (g.met.C.PatCx.values c.args.cx.now) c.args.i column
          (matrix_columns c.args.m) (matrix_rows c.args.m) there c.requires.ready.parted c.requires.ready.ready
          here.0 p here.1 here.2 whole order);
    }

pub piece_columns-requires-clause-ty : goal.piece_columns-requires-clause-ty
piece_columns-requires-clause-ty g c =
    let there = read-map plain_column c.args.m.columns.items c.args.i c.index-column.result.now c.requires.within
    c.index-column.ensures in
    let here = piece-here (g.C.PatCx.context c.args.cx.now) c.args.i c.args.m (plain_ctor c.args.piece.now)
    (plain_column c.index-column.result.now) c.requires.piece there in
    piece-type (g.C.PatCx.is_type c.args.cx.now) (g.C.PatCx.context c.args.cx.now)
    (table_decides c.args.decisions.now) (g.C.PatCx.is_value c.args.cx.now) (g.met.C.PatCx.parts c.args.cx.now)
    (g.met.C.PatCx.values c.args.cx.now) c.args.i (plain_column c.index-column.result.now) (matrix_columns c.args.m) (matrix_rows c.args.m) there
    c.requires.ready.parted c.requires.ready.ready here.0 (plain_ctor c.args.piece.now) here.1 here.2

pub piece_columns-requires-clause-belongs : goal.piece_columns-requires-clause-belongs
piece_columns-requires-clause-belongs g c =
    let there = read-map plain_column c.args.m.columns.items c.args.i c.index-column.result.now c.requires.within
    c.index-column.ensures in
    let here = piece-here (g.C.PatCx.context c.args.cx.now) c.args.i c.args.m (plain_ctor c.args.piece.now)
    (plain_column c.index-column.result.now) c.requires.piece there in
    piece-belongs (g.C.PatCx.is_type c.args.cx.now) (g.C.PatCx.context c.args.cx.now)
    (table_decides c.args.decisions.now) (g.C.PatCx.is_value c.args.cx.now) (g.met.C.PatCx.parts c.args.cx.now)
    (g.met.C.PatCx.values c.args.cx.now) c.args.i (plain_column c.index-column.result.now) (matrix_columns c.args.m) (matrix_rows c.args.m) there
    c.requires.ready.parted c.requires.ready.ready here.0 (plain_ctor c.args.piece.now) here.1 here.2

pub piece_columns-requires-clause-held : goal.piece_columns-requires-clause-held
piece_columns-requires-clause-held g c =
    let there = read-map plain_column c.args.m.columns.items c.args.i c.index-column.result.now c.requires.within
    c.index-column.ensures in
    let here = piece-here (g.C.PatCx.context c.args.cx.now) c.args.i c.args.m (plain_ctor c.args.piece.now)
    (plain_column c.index-column.result.now) c.requires.piece there in
    piece-held (g.C.PatCx.is_type c.args.cx.now) (g.C.PatCx.context c.args.cx.now)
    (table_decides c.args.decisions.now) (g.C.PatCx.is_value c.args.cx.now) (g.met.C.PatCx.parts c.args.cx.now)
    (g.met.C.PatCx.values c.args.cx.now) c.args.i (plain_column c.index-column.result.now) (matrix_columns c.args.m) (matrix_rows c.args.m) there
    c.requires.ready.parted c.requires.ready.ready here.0 (plain_ctor c.args.piece.now) here.1 here.2
