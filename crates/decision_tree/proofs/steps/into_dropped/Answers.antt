use Rattle.std.proofs.Common.{◌∙◌, [], sym, ap, subst, arith}
use Rattle.std.proofs.lemmas.List.{length-map}
use Rattle.match_model.specs.RowOrder.{AreInOrder}
use Rattle.match_model.specs.Steps.{default_head, rows_at, replaced_at}
use Rattle.keyed_steps.specs.Good.{IsGood}
use Rattle.keyed_matrix.specs.Deciding.{table_decides}
use Rattle.keyed_matrix.specs.Views.{plain_column, plain_columns, plain_rows}
use Rattle.decision_tree.specs.Matrices.{matrix_columns, matrix_rows}
use Rattle.decision_tree.proofs.Reading.{read-map}
use Rattle.decision_tree.proofs.Stepping.{longer-good, dropped-good, dropped-parted}
use Rattle.decision_tree.proofs.StillInOrder.{dropped-in-order}
use Rattle.decision_tree.proofs.steps.into_dropped.Goals as goal

pub into_dropped_rows-requires : goal.into_dropped_rows-requires
into_dropped_rows-requires g c =
    let long = length-map c.args.m.columns.items plain_column in
    longer-good (g.C.PatCx.is_type c.args.cx.now) (g.C.PatCx.context c.args.cx.now) (table_decides c.args.decisions.now) c.args.i
    (matrix_columns c.args.m) (matrix_rows c.args.m) (omega (arith, long, c.requires.within)) c.requires.ready.ready.good

pub returns-clause-dropped : goal.returns-clause-dropped
returns-clause-dropped g c =
    let there = read-map plain_column c.args.m.columns.items c.args.i c.index.result.now c.requires.within c.index.ensures in
    let rows = c.in_ok-rows.ensures in
    let columns = c.in_ok-columns.ensures ∙ ap (λ cs. replaced_at c.args.i (plain_columns cs) []) c.deref.ensures.value in
    record {
      column = plain_column c.index.result.now;
      there = there;
      columns = columns;
      rows = subst (AreInOrder (table_decides c.args.decisions.now) (rows_at default_head
          (plain_column c.index.result.now).place c.args.i (matrix_rows c.args.m))) (sym rows)
          (dropped-in-order (table_decides c.args.decisions.now) (plain_column c.index.result.now).place c.args.i
          (matrix_rows c.args.m) c.requires.ready.parted);
    }

pub returns-clause-good : goal.returns-clause-good
returns-clause-good g c =
    let there = read-map plain_column c.args.m.columns.items c.args.i c.index.result.now c.requires.within c.index.ensures in
    let rows = c.in_ok-rows.ensures in
    let columns = c.in_ok-columns.ensures ∙ ap (λ cs. replaced_at c.args.i (plain_columns cs) []) c.deref.ensures.value in
    let order = subst (AreInOrder (table_decides c.args.decisions.now) (rows_at default_head
    (plain_column c.index.result.now).place c.args.i (matrix_rows c.args.m))) (sym rows)
    (dropped-in-order (table_decides c.args.decisions.now) (plain_column c.index.result.now).place c.args.i
    (matrix_rows c.args.m) c.requires.ready.parted) in
    record {
      good =
          subst (λ cs. IsGood (g.C.PatCx.is_type c.args.cx.now) (g.C.PatCx.context c.args.cx.now) (table_decides c.args.decisions.now) cs
          (plain_rows c.in_ok-rows.rows.items)) (sym columns)
          (dropped-good (g.C.PatCx.is_type c.args.cx.now) (g.C.PatCx.context c.args.cx.now)
          (table_decides c.args.decisions.now) (g.C.PatCx.is_value c.args.cx.now) (g.met.C.PatCx.parts c.args.cx.now)
          (g.met.C.PatCx.values c.args.cx.now) c.args.i (plain_column c.index.result.now) (matrix_columns c.args.m) (matrix_rows c.args.m) there
          c.requires.ready.parted c.requires.ready.ready (plain_rows c.in_ok-rows.rows.items) order);
      parted =
          dropped-parted (g.C.PatCx.is_type c.args.cx.now) (g.C.PatCx.context c.args.cx.now)
          (table_decides c.args.decisions.now) (g.C.PatCx.is_value c.args.cx.now) (g.met.C.PatCx.parts c.args.cx.now)
          (g.met.C.PatCx.values c.args.cx.now) c.args.i (plain_column c.index.result.now) (matrix_columns c.args.m) (matrix_rows c.args.m) there
          c.requires.ready.parted c.requires.ready.ready (plain_rows c.in_ok-rows.rows.items) order;
    }
