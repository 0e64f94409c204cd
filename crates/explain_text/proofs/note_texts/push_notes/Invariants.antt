use Rattle.std.proofs.Common.{◌≡◌, ◌++◌, drop, map, string_bytes}
use Rattle.std.specs.Prelude.{flat_map}
use Rattle.explain_text.specs.Diagnostics.{note_view}
use Rattle.explain_text.specs.Texts.{note_text}
use Rattle.explain_text.proofs.note_texts.push_notes.Given as goal

abbrev pub invariant-loop-note : goal.invariant-loop-note
invariant-loop-note l =
    string_bytes l.text
    ++ flat_map (note_text l.source.paint l.source.name.now l.source.text.now l.source.mark) (map note_view (drop l.note-index l.notes))
    ≡ string_bytes l.initial.text ++ flat_map (note_text l.source.paint l.source.name.now l.source.text.now l.source.mark) (map note_view l.notes)
