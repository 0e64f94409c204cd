use Rattle.std.proofs.Common.{◌&&◌, not, ◌+◌, take, drop, ap, sym, ◌∙◌}
use Rattle.std.specs.List.{list_all}
use Rattle.match_model.specs.Rows.{is_wild}
use Rattle.keyed_matrix.specs.Views.{plain_head, plain_heads}
use Rattle.decision_tree.specs.Cutting.{head_there, is_flat}
use Rattle.decision_tree.proofs.Cuts.{there-got}
use Rattle.decision_tree.proofs.cutting.takes_pieces.Goals as goal

pub returns-then-row : goal.returns-then-row
returns-then-row g c =
    let hs = plain_heads c.args.row.now.heads.items in
    let i = c.args.i in
    sym (ap (λ b. not b && (is_flat (head_there i hs) && (list_all is_wild (take i hs) && list_all is_wild (drop (i + 1) hs)))) c.if-row.true)

pub returns-then-not-is_flat : goal.returns-then-not-is_flat
returns-then-not-is_flat g c =
    let hs = plain_heads c.args.row.now.heads.items in
    let i = c.args.i in
    let flat = ap is_flat (there-got i hs (plain_head c.head_at.result) c.head_at.ensures) ∙ sym c.is_flat.ensures ∙ c.if-not-is_flat.true in
    sym (ap (λ b. not b && (is_flat (head_there i hs) && (list_all is_wild (take i hs) && list_all is_wild (drop (i + 1) hs)))) c.if-row.false
    ∙ ap (λ b. b && (list_all is_wild (take i hs) && list_all is_wild (drop (i + 1) hs))) flat)

pub returns : goal.returns
returns g c =
    let hs = plain_heads c.args.row.now.heads.items in
    let i = c.args.i in
    let flat = ap is_flat (there-got i hs (plain_head c.head_at.result) c.head_at.ensures) ∙ sym c.is_flat.ensures ∙ c.if-not-is_flat.false in
    c.are_wild_beside.ensures
    ∙ sym (ap (λ b. not b && (is_flat (head_there i hs) && (list_all is_wild (take i hs) && list_all is_wild (drop (i + 1) hs)))) c.if-row.false
    ∙ ap (λ b. b && (list_all is_wild (take i hs) && list_all is_wild (drop (i + 1) hs))) flat)
