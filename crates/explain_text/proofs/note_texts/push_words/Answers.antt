use Rattle.explain_text.specs.Texts.{words_text}
use Rattle.explain_lines.proofs.Adding.{six_added}
use Rattle.explain_text.proofs.note_texts.push_words.Goals as goal

pub returns : goal.returns
unfolding words_text
returns c =
    six_added _ _ _ _ _ _ _ _ _ _ _ _ _ c.in_ok-push_str.ensures.bytes c.in_ok-push_styled.ensures c.in_ok-push_styled-2.ensures c.in_ok-push_str-2.ensures.bytes
    c.in_ok-push_str-3.ensures.bytes c.in_ok-push_str-4.ensures.bytes
