use Rattle.std.proofs.Common.{◌∙◌, ap, ◌++◌, [], string_bytes}
use Rattle.explain_text.specs.Frames.{span_text}
use Rattle.explain_text.specs.Texts.{block_text}
use Rattle.explain_text.specs.declared.styles.Style.{Style}
use Rattle.explain_lines.proofs.Adding.{two_added}
use Rattle.explain_text.proofs.note_texts.push_marked.Goals as goal

pub returns : goal.returns
returns c =
    two_added _ _ _ _ _
    (c.in_ok-push_block.ensures
    ∙ ap (λ s. string_bytes c.args.text.now ++ block_text c.args.source.now.paint c.args.note.now.level s) c.as_str.ensures.value)
    (c.in_ok-push_frame.ensures
    ∙ ap (λ (s : Style). string_bytes c.push_block.new.text
    ++ span_text c.args.source.now.paint s [] c.args.source.now.name.now c.args.source.now.text.now c.args.source.now.mark c.args.span.now)
    c.note_style-style.ensures)
