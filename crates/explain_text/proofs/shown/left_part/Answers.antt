use Rattle.std.proofs.Common.{◌∙◌, ap, ◌++◌, string_bytes}
use Rattle.explain_text.proofs.ShownLemmas.{left_cut, left_whole}
use Rattle.explain_text.proofs.shown.left_part.Goals as goal

pub returns-then-is_cut : goal.returns-then-is_cut
returns-then-is_cut c =
    left_cut c.args.text.now c.shown_from-from.result c.args.spot c.as_str.result.now _ c.requires.right c.shown_from-from.ensures
    c.if-is_cut.true
    (c.as_str.ensures.value ∙ c.in_ok-shown.ensures)
    (c.in_ok-push_str.ensures.bytes ∙ ap (λ s. s ++ c.as_str.result.now) c.in_ok-part.ensures.ok)

pub returns : goal.returns
returns c =
    left_whole c.args.text.now c.shown_from-from.result c.args.spot _ c.requires.right c.shown_from-from.ensures
    c.if-is_cut.false c.in_ok-shown.ensures
