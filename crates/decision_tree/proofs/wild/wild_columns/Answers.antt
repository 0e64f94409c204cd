use Rattle.std.proofs.Common.{◌≡◌, ◌+◌, ◌∙◌, true, replicate, rules, length, take, ap, sym, subst, arith}
use Rattle.std.proofs.lemmas.List.{take_all, with_items_is}
use Rattle.keyed_matrix.specs.Views.{plain_heads, plain_rows}
use Rattle.decision_tree.specs.WildColumns.{StayWhereWild, AreWildMarks}
use Rattle.decision_tree.proofs.Marks.{marks-begun, marks-next}
use Rattle.decision_tree.proofs.RunTests.{row-all}
use Rattle.decision_tree.proofs.wild.wild_columns.Goals as goal

pub mark_row-requires-clause-marks : goal.mark_row-requires-clause-marks
mark_row-requires-clause-marks g c = ap length c.deref_mut.ensures.value ∙ c.loop-row.invariant.long

pub mark_row-requires-clause-heads : goal.mark_row-requires-clause-heads
mark_row-requires-clause-heads g c =
    let loop = c.loop-row in
    ap (λ hs. length (plain_heads hs)) c.deref.ensures.value
    ∙ row-all (λ r. length r.heads ≡ c.args.columns) c.args.rows.now loop.row-index c.row-item.result c.requires
    c.loop-row-test.true c.row-item.is

pub loop-row-init : goal.loop-row-init
loop-row-init g c =
    let same : c.in_ok-marks.marks.items ≡ replicate c.args.columns true = search rules in
    subst (AreWildMarks c.args.columns (plain_rows (take 0 c.args.rows.now))) (sym same)
    (marks-begun c.args.columns)

pub loop-row-preserved : goal.loop-row-preserved
loop-row-preserved g c =
    let loop = c.loop-row in
    let long = c.mark_row.ensures.long ∙ ap length c.deref_mut.ensures.value in
    let ok = loop.marks.ok.0 in
    let same : length c.mark_row.new.marks ≡ loop.marks.len = omega (arith, long, ok) in
    subst (AreWildMarks c.args.columns (plain_rows (take (loop.row-index + 1) c.args.rows.now)))
    (sym (with_items_is loop.marks c.mark_row.new.marks same))
    (marks-next c.args.rows.now loop.row-index c.row-item.result c.loop-row-test.true c.row-item.is c.args.columns
    loop.marks.items c.mark_row.new.marks loop.invariant
    (subst (λ hs. StayWhereWild 0 (plain_heads hs) loop.marks.items c.mark_row.new.marks) c.deref.ensures.value
    (subst (λ bs. StayWhereWild 0 (plain_heads c.deref.result.now) bs c.mark_row.new.marks) c.deref_mut.ensures.value
    c.mark_row.ensures)))

pub returns : goal.returns
returns g c =
    subst (λ rs. AreWildMarks c.args.columns (plain_rows rs) c.loop-row.marks.items)
    (take_all c.loop-row.row-index c.args.rows.now c.loop-row-test.false) c.loop-row.invariant
