use Rattle.std.proofs.Common.{◌∙◌, ap, sym, subst, ◌++◌, List, length, map, string_bytes}
use Rattle.std.specs.Prelude.{flat_map}
use Rattle.std.specs.List.{All}
use Rattle.explain_text.specs.Diagnostics.{IsNoteInside, note_view}
use Rattle.explain_text.specs.Texts.{diagnostic_text, heading_text, note_text}
use Rattle.explain_text.specs.declared.diagnostics.Note.{Note}
use Rattle.explain_lines.proofs.Adding.{four_added}
use Rattle.explain_text.proofs.texts.push_diagnostic.Goals as goal

pub push_notes-requires-clause-within : goal.push_notes-requires-clause-within
push_notes-requires-clause-within c =
    subst (λ (ns : List Note). All (IsNoteInside (length c.args.source.now.text.now) c.args.source.now.mark) (map note_view ns)) (sym c.as_slice.ensures.value)
    c.requires.within.notes

pub returns : goal.returns
unfolding diagnostic_text
returns c =
    four_added _ _ _ _ _ _ _ _ _
    (c.in_ok-push_heading.ensures
    ∙ ap (λ s. string_bytes c.args.text.now ++ heading_text c.args.source.now.paint c.args.diagnostic.now.breaks s) c.as_str.ensures.value)
    c.in_ok-push_position.ensures
    (c.in_ok-push_notes.ensures
    ∙ ap (λ (ns : List Note). string_bytes c.push_position.new.text
    ++ flat_map (note_text c.args.source.now.paint c.args.source.now.name.now c.args.source.now.text.now c.args.source.now.mark) (map note_view ns))
    c.as_slice.ensures.value)
    c.in_ok-push_str.ensures.bytes
