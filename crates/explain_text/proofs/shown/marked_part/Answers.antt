use Rattle.std.proofs.Common.{◌∙◌, ap, max, min}
use Rattle.explain_text.proofs.ShownLemmas.{marked_is}
use Rattle.explain_text.proofs.shown.marked_part.Goals as goal

pub returns : goal.returns
returns c =
    marked_is c.args.text.now c.args.at c.shown_to.result c.args.to c.max-end.result _ c.shown_to.ensures
    (c.max-end.ensures ∙ ap (λ n. max n c.args.at) c.min.ensures) c.in_ok-part.ensures
