use Rattle.std.proofs.Common.{map, ap, sym, ◌∙◌}
use Rattle.std.specs.List.{list_any}
use Rattle.keyed_matrix.specs.Views.{plain_heads, plain_row}
use Rattle.decision_tree.specs.Thin.{is_blank_head, thin_head}
use Rattle.decision_tree.proofs.Blanks.{none-blank}
use Rattle.decision_tree.proofs.thin.make_thin.Goals as goal

pub returns-in_ok-row : goal.returns-in_ok-row
returns-in_ok-row g c =
    let row = plain_row c.args.row.now in
    ap (λ hs. record row { heads = hs }) (c.in_ok-row.ensures
    ∙ ap (λ hs. map thin_head (plain_heads hs)) c.deref-then-have_blank.ensures.value)

pub returns-else-have_blank : goal.returns-else-have_blank
returns-else-have_blank g c =
    let row = plain_row c.args.row.now in
    ap (λ hs. record row { heads = hs }) (sym (none-blank (plain_heads c.args.row.now.heads.items)
    (ap (λ hs. list_any is_blank_head (plain_heads hs)) (sym c.deref.ensures.value)
    ∙ sym c.have_blank.ensures ∙ c.if-have_blank.false)))
