use Rattle.std.proofs.Common.{◌≡◌, drop, map}
use Rattle.std.specs.List.{list_all}
use Rattle.explain_text.specs.Diagnosing.{is_note_found}
use Rattle.explain_text.specs.Diagnostics.{note_view}
use Rattle.explain_text.proofs.diagnosing.are_found.Given as goal

abbrev pub invariant-loop-note : goal.invariant-loop-note
invariant-loop-note l =
    list_all (is_note_found l.file) (map note_view (drop l.note-index l.notes)) ≡ list_all (is_note_found l.file) (map note_view l.notes)
