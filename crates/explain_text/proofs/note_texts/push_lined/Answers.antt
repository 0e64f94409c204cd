use Rattle.std.proofs.Common.{◌∙◌, ap, ◌++◌, string_bytes}
use Rattle.explain_text.specs.Texts.{block_text}
use Rattle.explain_lines.proofs.Adding.{two_added}
use Rattle.explain_text.proofs.note_texts.push_lined.Goals as goal

pub returns : goal.returns
returns c =
    two_added _ _ _ _ _
    (c.in_ok-push_block.ensures ∙ ap (λ s. string_bytes c.args.text.now ++ block_text c.args.paint c.args.note.now.level s) c.as_str.ensures.value)
    c.in_ok-push_code.ensures
