use Rattle.std.proofs.Common.{sym, ◌∙◌}
use Rattle.decision_tree.proofs.KnownColumns.{same-place, place-goes-on}
use Rattle.decision_tree.proofs.tells.is_place_after.Goals as goal

pub returns-then-is_step_after : goal.returns-then-is_step_after
returns-then-is_step_after c = λ e.
    let b = c.in-Some-Some in
    place-goes-on c.args.first.now c.args.next.now b.before.now b.around.now b.last.now b.other.now c.args.count
    b.ensures.cases.0 b.ensures'.cases.0 (c.is_step_after.ensures c.if-is_step_after.true)
    (same-place b.before.now b.around.now (sym c.eq.ensures ∙ e))
