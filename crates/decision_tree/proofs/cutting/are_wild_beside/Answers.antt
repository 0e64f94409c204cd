use Rattle.std.proofs.Common.{nat_eq, cond, ap, ◌∙◌}
use Rattle.match_model.specs.Rows.{is_wild}
use Rattle.keyed_matrix.specs.Views.{plain_head, plain_heads, plain_row}
use Rattle.decision_tree.specs.Cutting.{open_count}
use Rattle.decision_tree.proofs.Open.{open-beside}
use Rattle.decision_tree.proofs.cutting.are_wild_beside.Goals as goal

pub returns : goal.returns
returns g c =
    let hs = (plain_row c.args.row.now).heads in
    (λ k. nat_eq (c.count_open.ensures k) (c.own_count.ensures k))
    ∙ ap (λ xs. nat_eq (open_count (plain_heads xs)) (cond (is_wild (plain_head c.head_at-head.result)) 0 1)) c.deref.ensures.value
    ∙ open-beside is_wild c.args.i hs (plain_head c.head_at-head.result) c.head_at-head.ensures
