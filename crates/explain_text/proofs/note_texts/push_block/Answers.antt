use Rattle.std.proofs.Common.{◌∙◌, ap, ◌++◌, string_bytes}
use Rattle.explain_text.specs.Texts.{block_text, note_style}
use Rattle.explain_text.specs.Styles.{styled}
use Rattle.explain_text.specs.declared.styles.Style.{Style}
use Rattle.explain_lines.proofs.Adding.{four_added}
use Rattle.explain_text.proofs.note_texts.push_block.Goals as goal

pub returns : goal.returns
unfolding block_text
returns c =
    four_added _ _ _ _ _ _ _ _ _
    (c.in_ok-push_styled.ensures
    ∙ ap (λ (s : Style). string_bytes c.args.text.now ++ styled c.args.paint s c.note_word.result.now) c.note_style.ensures
    ∙ ap (λ x. string_bytes c.args.text.now ++ styled c.args.paint (note_style c.args.level) x) c.note_word.ensures)
    c.in_ok-push_str.ensures.bytes c.in_ok-push_str-2.ensures.bytes c.in_ok-push_str-3.ensures.bytes
