use Rattle.std.proofs.Common.{nat_eq, cond, ap, ◌∙◌}
use Rattle.decision_tree.specs.Idle.{is_idle}
use Rattle.keyed_matrix.specs.Views.{plain_head, plain_heads, plain_row}
use Rattle.decision_tree.specs.Cutting.{count_unless}
use Rattle.decision_tree.proofs.Open.{open-beside}
use Rattle.decision_tree.proofs.idle.are_idle_beside.Goals as goal

pub returns : goal.returns
returns g c =
    let hs = (plain_row c.args.row.now).heads in
    (λ k. nat_eq (c.count_busy.ensures k) (c.own_busy.ensures k))
    ∙ ap (λ xs. nat_eq (count_unless is_idle (plain_heads xs)) (cond (is_idle (plain_head c.head_at-head.result)) 0 1)) c.deref.ensures.value
    ∙ open-beside is_idle c.args.i hs (plain_head c.head_at-head.result) c.head_at-head.ensures
