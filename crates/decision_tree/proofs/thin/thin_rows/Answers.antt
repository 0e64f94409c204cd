use Rattle.std.proofs.Common.{◌<◌, ◌≤◌, ◌∙◌, length, ap, arith}
use Rattle.keyed_matrix.specs.Views.{plain_row, plain_rows}
use Rattle.decision_tree.specs.Thin.{thin_row}
use Rattle.decision_tree.proofs.ByArm.{plain-length}
use Rattle.decision_tree.proofs.Changed.{changed-next, changed-all}
use Rattle.decision_tree.proofs.thin.thin_rows.Goals as goal

pub loop-i-preserved : goal.loop-i-preserved
loop-i-preserved g c =
    let same = plain-length c.args.rows.items in
    let count = c.len-i-end.ensures in
    let below = c.loop-i-test.true in
    let ok = c.args.rows.ok in
    let within : c.loop-i.i < length (plain_rows c.args.rows.items) = omega (arith, same, count, below, ok) in
    changed-next thin_row (plain_rows c.args.rows.items) c.loop-i.rows.items c.loop-i.i c.index_mut.result.now
    c.make_thin.new.row c.loop-i.invariant within
    (c.in_ok-make_thin.ensures ∙ ap (λ x. thin_row (plain_row x)) c.index_mut.ensures.value)

pub returns : goal.returns
returns g c =
    let same = plain-length c.args.rows.items in
    let count = c.len-i-end.ensures in
    let end = c.loop-i-test.false in
    let ok = c.args.rows.ok in
    let all : length (plain_rows c.args.rows.items) ≤ c.loop-i.i = omega (arith, same, count, end, ok) in
    c.loop-i.invariant ∙ changed-all thin_row (plain_rows c.args.rows.items) c.loop-i.i all
