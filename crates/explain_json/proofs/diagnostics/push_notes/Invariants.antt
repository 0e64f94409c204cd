use Rattle.std.proofs.Common.{◌≡◌, ◌++◌, drop, false, map, string_bytes}
use Rattle.serde_json.specs.View.{items_of}
use Rattle.serde_json.specs.Written.{items_text}
use Rattle.explain_text.specs.Diagnostics.{note_view}
use Rattle.explain_json.specs.Diagnostics.{note_data}
use Rattle.explain_json.proofs.diagnostics.push_notes.Given as goal

abbrev pub invariant-loop-note : goal.invariant-loop-note
invariant-loop-note l =
    string_bytes l.text ++ items_text l.later (items_of (map (note_data l.source.name.now l.source.text.now l.source.mark) (map note_view (drop l.note-index l.notes))))
    ≡ string_bytes l.initial.text ++ items_text false (items_of (map (note_data l.source.name.now l.source.text.now l.source.mark) (map note_view l.notes)))
