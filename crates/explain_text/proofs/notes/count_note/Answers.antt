use Rattle.std.proofs.Common.{◌∙◌, ap, []}
use Rattle.explain_text.specs.Notes.{count_text, words_note}
use Rattle.explain_text.specs.declared.diagnostics.NoteLevel.TheVariants as levels
use Rattle.explain_lines.proofs.Adding.{four_added}
use Rattle.explain_text.proofs.notes.count_note.Goals as goal

pub returns : goal.returns
unfolding count_text
returns c =
    c.words_note.ensures
    ∙ ap (words_note levels.Note)
    (four_added [] _ _ _ _ _ _ _ _ c.in_ok-text.ensures.ok c.in_ok-push_str.ensures.bytes c.in_ok-push_str-2.ensures.bytes c.in_ok-write.ensures.bytes)
