use Rattle.std.proofs.Common.{◌∙◌, ap, sym, ◌++◌, codes, string_bytes}
use Rattle.explain_text.proofs.ShownLemmas.{right_cut, right_whole}
use Rattle.explain_text.proofs.shown.right_part.Goals as goal

pub returns-then-is_cut : goal.returns-then-is_cut
returns-then-is_cut c =
    right_cut c.args.text.now c.args.at c.shown_to-to.result _ _ c.shown_to-to.ensures (sym c.is_cut_behind-is_cut.ensures ∙ c.if-is_cut.true) c.in_ok-shown.ensures c.in_ok-push_str.ensures.bytes

pub returns : goal.returns
returns c =
    right_whole c.args.text.now c.args.at c.shown_to-to.result _ c.shown_to-to.ensures (sym c.is_cut_behind-is_cut.ensures ∙ c.if-is_cut.false) c.in_ok-shown.ensures
