use Rattle.std.proofs.Common.{◌≡◌, ◌<◌, ◌≤◌, ◌∙◌, length, ap, sym, subst, arith}
use Rattle.keyed_matrix.specs.Views.{plain_columns, plain_row, plain_rows}
use Rattle.decision_tree.specs.WildColumns.{unmarked_row}
use Rattle.decision_tree.proofs.ByArm.{plain-length}
use Rattle.decision_tree.proofs.Changed.{changed-next, changed-all, changed-holds}
use Rattle.decision_tree.proofs.wild.unmarked_rows.Goals as goal

pub leave_marked-requires-clause-heads : goal.leave_marked-requires-clause-heads
leave_marked-requires-clause-heads g c =
    let same = plain-length c.args.rows.items in
    let count = c.len-i-end.ensures in
    let below = c.loop-i-test.true in
    let ok = c.args.rows.ok in
    let within : c.loop-i.i < length (plain_rows c.args.rows.items) = omega (arith, same, count, below, ok) in
    subst (λ x. length (plain_row x).heads ≡ length c.args.marks.now) (sym c.index_mut.ensures.value)
    (changed-holds (unmarked_row c.args.marks.now (plain_columns c.args.columns.now))
    (λ r. length r.heads ≡ length c.args.marks.now) (plain_rows c.args.rows.items) c.loop-i.rows.items c.loop-i.i
    c.index_mut.result.now c.loop-i.invariant within c.requires.heads)

pub loop-i-preserved : goal.loop-i-preserved
loop-i-preserved g c =
    let same = plain-length c.args.rows.items in
    let count = c.len-i-end.ensures in
    let below = c.loop-i-test.true in
    let ok = c.args.rows.ok in
    let within : c.loop-i.i < length (plain_rows c.args.rows.items) = omega (arith, same, count, below, ok) in
    let new = unmarked_row c.args.marks.now (plain_columns c.args.columns.now) in
    changed-next new (plain_rows c.args.rows.items) c.loop-i.rows.items c.loop-i.i c.index_mut.result.now
    c.leave_marked.new.row c.loop-i.invariant within
    (c.in_ok-leave_marked.ensures ∙ ap (λ x. new (plain_row x)) c.index_mut.ensures.value)

pub returns : goal.returns
returns g c =
    let same = plain-length c.args.rows.items in
    let count = c.len-i-end.ensures in
    let end = c.loop-i-test.false in
    let ok = c.args.rows.ok in
    let all : length (plain_rows c.args.rows.items) ≤ c.loop-i.i = omega (arith, same, count, end, ok) in
    c.loop-i.invariant
    ∙ changed-all (unmarked_row c.args.marks.now (plain_columns c.args.columns.now)) (plain_rows c.args.rows.items) c.loop-i.i all
