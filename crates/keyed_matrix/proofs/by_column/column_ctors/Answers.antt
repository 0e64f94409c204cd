use Rattle.std.proofs.Common.{◌≡◌, ◌∙◌, length, ap, subst}
use Rattle.std.proofs.lemmas.List.{take_all}
use Rattle.std.specs.List.{flat_map}
use Rattle.keyed_matrix.specs.InColumns.{HaveMore, ctors_from}
use Rattle.keyed_matrix.specs.Views.{plain_heads, plain_rows}
use Rattle.keyed_matrix.proofs.ByColumn.{lists-next, row-has}
use Rattle.keyed_matrix.specs.Steps.{row_ctors}
use Rattle.keyed_matrix.proofs.TakenApart.{rows-ctors}
use Rattle.keyed_matrix.proofs.by_column.column_ctors.Goals as goal

pub loop-row-init : goal.loop-row-init
loop-row-init g c = record { long = c.in_ok-lists.ensures.long; ctors = λ i w. c.in_ok-lists.ensures.none i }

pub add_row_ctors-requires-clause-heads : goal.add_row_ctors-requires-clause-heads
add_row_ctors-requires-clause-heads g c =
    ap (λ hs. length (plain_heads hs)) c.deref.ensures.value
    ∙ row-has (λ r. length r.heads ≡ length c.args.wanted.now) c.args.rows.now c.loop-row.row-index c.row-item.result
    c.requires c.loop-row-test.true c.row-item.is

pub loop-row-preserved : goal.loop-row-preserved
loop-row-preserved g c =
    let loop = c.loop-row in
    let now = loop.lists.items in
    let new = c.add_row_ctors.new.lists.items in
    let row = c.row-item.result in
    let here = subst (λ hs. HaveMore c.args.wanted.now now new (ctors_from 0 (plain_heads hs))) c.deref.ensures.value
    c.in_ok-add_row_ctors.ensures in
    record {
      long = here.long ∙ loop.invariant.long;
      ctors =
          lists-next c.args.wanted.now c.args.rows.now loop.row-index row c.loop-row-test.true c.row-item.is now new
          (row-has (λ r. length r.heads ≡ length c.args.wanted.now) c.args.rows.now loop.row-index row c.requires
          c.loop-row-test.true c.row-item.is) loop.invariant.ctors here;
    }

pub returns-clause-ctors : goal.returns-clause-ctors
returns-clause-ctors g c = λ i place w.
    c.loop-row.invariant.ctors i w
    ∙ ap (λ rs. flat_map (row_ctors i) (plain_rows rs)) (take_all c.loop-row.row-index c.args.rows.now c.loop-row-test.false)
    ∙ rows-ctors place i (plain_rows c.args.rows.now)
