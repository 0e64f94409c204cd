use Rattle.std.proofs.Common.{◌≡◌, ◌<◌, ◌+◌, ◌∙◌, map, drop, get_or, slice_get, length, ap, sym, subst, arith}
use Rattle.std.proofs.lemmas.List.{length-map}
use Rattle.match_model.specs.FewestBranches.{is_asked}
use Rattle.pat_context.specs.Views.{plain_ctor}
use Rattle.keyed_matrix.specs.Views.{plain_column, plain_columns, plain_heads, plain_row, plain_rows}
use Rattle.decision_tree.proofs.FewestSoFar.{IsBestOf, best-kept, best-more, best-found, none-found, asked-mark, first-cut, first-heads}
use Rattle.decision_tree.proofs.FewestSoFar.{as-many-marks, mark-there, list-there}
use Rattle.decision_tree.specs.Asked.{asks}
use Rattle.decision_tree.proofs.Reading.{there-map}
use Rattle.decision_tree.proofs.TypedRows.{long-typed}
use Rattle.decision_tree.proofs.branches.place_of.Goals.{then-index+in_ok-count, else-index}
use Rattle.decision_tree.proofs.branches.place_of.Goals as goal

pub column_ctors-requires : goal.column_ctors-requires
column_ctors-requires g c =
    let cx = g.C.PatCx.context c.args.cx.now in
    let marks = as-many-marks cx c.args.columns.now c.args.rows.now c.index-rows-0.result c.requires.some
    c.requires.typed.heads c.deref.result.now c.deref.ensures.value c.in_ok-asked.asked.items
    c.in_ok-asked.ensures in
    let lent = ap length c.deref-2.ensures.value in
    let long = length-map c.args.columns.now plain_column in
    long-typed cx (plain_columns c.args.columns.now) (plain_rows c.args.rows.now) (length c.deref-2.result.now)
    (omega (arith, marks, lent, long)) c.requires.typed.heads

pub index-requires : goal.index-requires
index-requires g c =
    let marks = as-many-marks (g.C.PatCx.context c.args.cx.now) c.args.columns.now c.args.rows.now c.index-rows-0.result
    c.requires.some c.requires.typed.heads c.deref.result.now c.deref.ensures.value
    c.in_ok-asked.asked.items c.in_ok-asked.ensures in
    omega (arith, marks, c.loop-i-test.true, c.in_ok-asked.asked.ok.0)

pub index-requires-then-index : goal.index-requires-then-index
index-requires-then-index g c =
    let marks = as-many-marks (g.C.PatCx.context c.args.cx.now) c.args.columns.now c.args.rows.now c.index-rows-0.result
    c.requires.some c.requires.typed.heads c.deref.result.now c.deref.ensures.value
    c.in_ok-asked.asked.items c.in_ok-asked.ensures in
    let lent = ap length c.deref-2.ensures.value in
    omega (arith, marks, lent, c.in_ok-ctors.ensures.long, c.loop-i-test.true, c.in_ok-ctors.ctors.ok.0)

pub branches-requires-clause-ctors : goal.branches-requires-clause-ctors
branches-requires-clause-ctors g c = λ place.
    let i = c.loop-i.i in
    let marks = as-many-marks (g.C.PatCx.context c.args.cx.now) c.args.columns.now c.args.rows.now c.index-rows-0.result
    c.requires.some c.requires.typed.heads c.deref.result.now c.deref.ensures.value
    c.in_ok-asked.asked.items c.in_ok-asked.ensures in
    let lent = ap length c.deref-2.ensures.value in
    let within : i < length c.in_ok-asked.asked.items = omega (arith, marks, c.loop-i-test.true) in
    let list : i < length c.in_ok-ctors.ctors.items =
    omega (arith, marks, lent, c.in_ok-ctors.ensures.long, c.loop-i-test.true) in
    ap (map plain_ctor) c.deref-then-index.ensures.value
    ∙ list-there c.in_ok-ctors.ctors.items i c.index-then-index.result.now list c.index-then-index.ensures
    ∙ c.in_ok-ctors.ensures.ctors i place
    (ap (λ bs. slice_get bs i) c.deref-2.ensures.value
    ∙ mark-there c.in_ok-asked.asked.items i c.index.result.now within c.index.ensures c.if-index.true)

pub loop-i-preserved : goal.loop-i-preserved
loop-i-preserved g c =
    let cx = g.C.PatCx.context c.args.cx.now in
    let V = g.C.PatCx.is_value c.args.cx.now in
    let columns = plain_columns c.args.columns.now in
    let rows = plain_rows c.args.rows.now in
    let i = c.loop-i.i in
    let b = c.index.result.now in
    let first = get_or c.args.rows.now 0 c.index-rows-0.result in
    let rest = plain_rows (drop 1 c.args.rows.now) in
    let heads = first-heads cx c.args.columns.now c.args.rows.now c.index-rows-0.result c.requires.some
    c.requires.typed.heads in
    let within : i < length (plain_row first).heads = omega (arith, heads, c.loop-i-test.true) in
    let marks = c.in_ok-asked.ensures ∙ ap (λ hs. map asks (plain_heads hs)) c.deref.ensures.value in
    let mark : is_asked i rows ≡ b =
    ap (is_asked i) (first-cut c.args.rows.now c.index-rows-0.result c.requires.some)
    ∙ asked-mark (plain_row first) rest i b within (c.index.ensures ∙ ap (λ bs. get_or bs i b) marks) in
    let column = there-map plain_column c.args.columns.now i (omega (arith, c.loop-i-test.true)) in
    elim c.if-index.branch [
      | then-index+in_ok-count w ↦ subst (IsBestOf cx V columns rows (i + 1)) (sym (w.best-is ∙ w.fewer-best.ensures))
          (best-more cx V columns rows i (plain_column column.0) w.in_ok-count.count column.2 (mark ∙ w.if-index.true)
          (w.in_ok-count.ensures column.0 column.1) c.loop-i.best c.loop-i.invariant)
      | else-index w ↦ subst (IsBestOf cx V columns rows (i + 1)) (sym w.best-is)
          (best-kept cx V columns rows i c.loop-i.best (mark ∙ w.if-index.false) c.loop-i.invariant)
    ]

pub returns-in-Some : goal.returns-in-Some
returns-in-Some g c =
    let first = get_or c.args.rows.now 0 c.index-rows-0.result in
    let heads = first-heads (g.C.PatCx.context c.args.cx.now) c.args.columns.now c.args.rows.now c.index-rows-0.result
    c.requires.some c.requires.typed.heads in
    let end : c.loop-i.i ≡ length (plain_row first).heads =
    omega (arith, heads, c.loop-i-test.false, c.loop-i.auto.i-end) in
    best-found (g.C.PatCx.context c.args.cx.now) (g.C.PatCx.is_value c.args.cx.now) (plain_columns c.args.columns.now)
    (plain_row first) (plain_rows (drop 1 c.args.rows.now)) (plain_rows c.args.rows.now)
    (first-cut c.args.rows.now c.index-rows-0.result c.requires.some) c.loop-i.i end c.loop-i.best c.loop-i.invariant
    c.in-Some.i c.in-Some._count c.in-Some.is

pub returns : goal.returns
returns g c =
    let first = get_or c.args.rows.now 0 c.index-rows-0.result in
    let heads = first-heads (g.C.PatCx.context c.args.cx.now) c.args.columns.now c.args.rows.now c.index-rows-0.result
    c.requires.some c.requires.typed.heads in
    let end : c.loop-i.i ≡ length (plain_row first).heads =
    omega (arith, heads, c.loop-i-test.false, c.loop-i.auto.i-end) in
    absurd (none-found (g.C.PatCx.context c.args.cx.now) (g.C.PatCx.is_value c.args.cx.now)
    (plain_columns c.args.columns.now) (plain_row first) (plain_rows (drop 1 c.args.rows.now))
    (plain_rows c.args.rows.now) (first-cut c.args.rows.now c.index-rows-0.result c.requires.some) c.loop-i.i end
    c.loop-i.best c.loop-i.invariant c.in-None.is (c.requires.asked c.index-rows-0.result))
