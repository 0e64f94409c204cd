use Rattle.explain_text.specs.Texts.{nowhere_text}
use Rattle.explain_lines.proofs.Adding.{four_added}
use Rattle.explain_text.proofs.texts.push_nowhere.Goals as goal

pub returns : goal.returns
unfolding nowhere_text
returns c =
    four_added _ _ _ _ _ _ _ _ _ c.in_ok-push_styled.ensures c.in_ok-push_str.ensures.bytes c.in_ok-push_str-2.ensures.bytes c.in_ok-push_words.ensures
