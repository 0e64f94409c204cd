use Rattle.std.proofs.Common.{◌&&◌, not, ◌+◌, take, drop, ap, sym, ◌∙◌}
use Rattle.std.specs.List.{list_all}
use Rattle.decision_tree.specs.Idle.{is_idle}
use Rattle.keyed_matrix.specs.Views.{plain_head, plain_heads}
use Rattle.decision_tree.specs.Cutting.{head_there, parts_pass}
use Rattle.decision_tree.proofs.Cuts.{there-got}
use Rattle.decision_tree.proofs.idle.takes_idly.Goals as goal

pub returns-then-row : goal.returns-then-row
returns-then-row g c =
    let hs = plain_heads c.args.row.now.heads.items in
    let i = c.args.i in
    sym (ap (λ b. not b && (parts_pass is_idle (head_there i hs) && (list_all is_idle (take i hs) && list_all is_idle (drop (i + 1) hs)))) c.if-row.true)

pub returns-then-not-has_idle_parts : goal.returns-then-not-has_idle_parts
returns-then-not-has_idle_parts g c =
    let hs = plain_heads c.args.row.now.heads.items in
    let i = c.args.i in
    let flat = ap (parts_pass is_idle) (there-got i hs (plain_head c.head_at.result) c.head_at.ensures) ∙ sym c.has_idle_parts.ensures ∙ c.if-not-has_idle_parts.true in
    sym (ap (λ b. not b && (parts_pass is_idle (head_there i hs) && (list_all is_idle (take i hs) && list_all is_idle (drop (i + 1) hs)))) c.if-row.false
    ∙ ap (λ b. b && (list_all is_idle (take i hs) && list_all is_idle (drop (i + 1) hs))) flat)

pub returns : goal.returns
returns g c =
    let hs = plain_heads c.args.row.now.heads.items in
    let i = c.args.i in
    let flat = ap (parts_pass is_idle) (there-got i hs (plain_head c.head_at.result) c.head_at.ensures) ∙ sym c.has_idle_parts.ensures ∙ c.if-not-has_idle_parts.false in
    c.are_idle_beside.ensures
    ∙ sym (ap (λ b. not b && (parts_pass is_idle (head_there i hs) && (list_all is_idle (take i hs) && list_all is_idle (drop (i + 1) hs)))) c.if-row.false
    ∙ ap (λ b. b && (list_all is_idle (take i hs) && list_all is_idle (drop (i + 1) hs))) flat)
