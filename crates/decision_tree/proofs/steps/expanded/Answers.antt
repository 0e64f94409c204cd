use Rattle.std.proofs.Common.{◌∙◌, refl, sym, ap, subst, arith}
use Rattle.std.proofs.lemmas.List.{length-map}
use Rattle.match_model.specs.Lists.{Ordered}
use Rattle.match_model.specs.RowOrder.{AreInOrder}
use Rattle.keyed_matrix.specs.Deciding.{table_decides}
use Rattle.keyed_matrix.specs.Steps.{AreLonger, are_apart}
use Rattle.keyed_matrix.specs.Turns.{IsOneFirst}
use Rattle.keyed_matrix.specs.Views.{plain_column, plain_rows}
use Rattle.decision_tree.specs.Matrices.{matrix_columns, matrix_rows}
use Rattle.decision_tree.proofs.Apart.{apart-order}
use Rattle.decision_tree.proofs.Reading.{read-map, there-map}
use Rattle.decision_tree.proofs.Stepping.{longer-good, expanded-first, expanded-ready, expanded-parted}
use Rattle.decision_tree.proofs.steps.expanded.Goals as goal

pub are_apart-requires : goal.are_apart-requires
are_apart-requires g c =
    let long = length-map c.args.m.columns.items plain_column in
    subst (λ rs. AreLonger c.args.i (plain_rows rs)) (sym c.deref.ensures.value)
    (longer-good (g.C.PatCx.is_type c.args.cx.now) (g.C.PatCx.context c.args.cx.now) (table_decides c.args.decisions.now) c.args.i
    (matrix_columns c.args.m) (matrix_rows c.args.m) (omega (arith, long, c.requires.within)) c.requires.good.good)

pub returns-then-are_apart-clause-expanded : goal.returns-then-are_apart-clause-expanded
returns-then-are_apart-clause-expanded g c =
    let long = length-map c.args.m.columns.items plain_column in
    let decides = table_decides c.args.decisions.now in
    let there = there-map plain_column c.args.m.columns.items c.args.i c.requires.within in
    let apart = ap (λ rs. are_apart c.args.i (plain_rows rs)) (sym c.deref.ensures.value) ∙ sym c.are_apart.ensures ∙ c.if-are_apart.true in
    record {
      column = plain_column there.0;
      there = there.2;
      columns = refl;
      rows = apart-order decides (plain_column there.0).place c.args.i (matrix_rows c.args.m)
          (longer-good (g.C.PatCx.is_type c.args.cx.now) (g.C.PatCx.context c.args.cx.now) decides c.args.i
          (matrix_columns c.args.m) (matrix_rows c.args.m) (omega (arith, long, c.requires.within)) c.requires.good.good)
          apart c.requires.good.parted;
    }

pub returns-then-are_apart-clause-ready : goal.returns-then-are_apart-clause-ready
returns-then-are_apart-clause-ready g c =
    let long = length-map c.args.m.columns.items plain_column in
    let decides = table_decides c.args.decisions.now in
    let there = there-map plain_column c.args.m.columns.items c.args.i c.requires.within in
    let apart = ap (λ rs. are_apart c.args.i (plain_rows rs)) (sym c.deref.ensures.value) ∙ sym c.are_apart.ensures ∙ c.if-are_apart.true in
    let order = apart-order decides (plain_column there.0).place c.args.i (matrix_rows c.args.m)
    (longer-good (g.C.PatCx.is_type c.args.cx.now) (g.C.PatCx.context c.args.cx.now) decides c.args.i
    (matrix_columns c.args.m) (matrix_rows c.args.m) (omega (arith, long, c.requires.within)) c.requires.good.good)
    apart c.requires.good.parted in
    record {
      ready =
          expanded-ready (g.C.PatCx.is_type c.args.cx.now) (g.C.PatCx.context c.args.cx.now)
          decides (g.C.PatCx.is_value c.args.cx.now) (g.met.C.PatCx.parts c.args.cx.now)
          (g.met.C.PatCx.values c.args.cx.now) c.args.i (plain_column there.0) (matrix_columns c.args.m) (matrix_rows c.args.m) there.2
          c.requires.good.parted c.requires.good.good (matrix_rows c.args.m) order;
      parted = c.requires.good.parted;
    }

pub into_expanded_rows-requires : goal.into_expanded_rows-requires
into_expanded_rows-requires g c =
    let long = length-map c.args.m.columns.items plain_column in
    longer-good (g.C.PatCx.is_type c.args.cx.now) (g.C.PatCx.context c.args.cx.now) (table_decides c.args.decisions.now) c.args.i
    (matrix_columns c.args.m) (matrix_rows c.args.m) (omega (arith, long, c.requires.within)) c.requires.good.good

pub in_order-requires : goal.in_order-requires
in_order-requires g c =
    let there = read-map plain_column c.args.m.columns.items c.args.i c.index.result.now c.requires.within c.index.ensures in
    let rows = c.in_ok-rows.ensures in
    subst (Ordered (IsOneFirst (table_decides c.args.decisions.now))) (sym rows)
    (expanded-first (g.C.PatCx.is_type c.args.cx.now) (g.C.PatCx.context c.args.cx.now)
    (table_decides c.args.decisions.now) (g.C.PatCx.is_value c.args.cx.now) (g.met.C.PatCx.parts c.args.cx.now)
    (g.met.C.PatCx.values c.args.cx.now) c.args.i (plain_column c.index.result.now) (matrix_columns c.args.m) (matrix_rows c.args.m) there
    c.requires.good.parted c.requires.good.good)

pub returns-clause-expanded : goal.returns-clause-expanded
returns-clause-expanded g c =
    let there = read-map plain_column c.args.m.columns.items c.args.i c.index.result.now c.requires.within c.index.ensures in
    let rows = c.in_ok-rows.ensures in
    record {
      column = plain_column c.index.result.now;
      there = there;
      columns = refl;
      rows = subst (λ rs. AreInOrder (table_decides c.args.decisions.now) rs (plain_rows c.in_ok-rows-2.rows.items)) rows
          c.in_ok-rows-2.ensures;
    }

pub returns-clause-ready : goal.returns-clause-ready
returns-clause-ready g c =
    let there = read-map plain_column c.args.m.columns.items c.args.i c.index.result.now c.requires.within c.index.ensures in
    let rows = c.in_ok-rows.ensures in
    let order = subst (λ rs. AreInOrder (table_decides c.args.decisions.now) rs (plain_rows c.in_ok-rows-2.rows.items)) rows
    c.in_ok-rows-2.ensures in
    record {
      ready =
          expanded-ready (g.C.PatCx.is_type c.args.cx.now) (g.C.PatCx.context c.args.cx.now)
          (table_decides c.args.decisions.now) (g.C.PatCx.is_value c.args.cx.now) (g.met.C.PatCx.parts c.args.cx.now)
          (g.met.C.PatCx.values c.args.cx.now) c.args.i (plain_column c.index.result.now) (matrix_columns c.args.m) (matrix_rows c.args.m) there
          c.requires.good.parted c.requires.good.good (plain_rows c.in_ok-rows-2.rows.items) order;
      parted =
          expanded-parted (g.C.PatCx.is_type c.args.cx.now) (g.C.PatCx.context c.args.cx.now)
          (table_decides c.args.decisions.now) (g.C.PatCx.is_value c.args.cx.now) (g.met.C.PatCx.parts c.args.cx.now)
          (g.met.C.PatCx.values c.args.cx.now) c.args.i (plain_column c.index.result.now) (matrix_columns c.args.m) (matrix_rows c.args.m) there
          c.requires.good.parted c.requires.good.good (plain_rows c.in_ok-rows-2.rows.items) order;
    }
