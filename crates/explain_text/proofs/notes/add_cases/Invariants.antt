use Rattle.std.proofs.Common.{◌≡◌, ◌++◌, drop, map}
use Rattle.explain_text.specs.Diagnostics.{note_view}
use Rattle.explain_text.specs.Notes.{case_note}
use Rattle.explain_text.proofs.notes.add_cases.Given as goal

abbrev pub invariant-loop-witness : goal.invariant-loop-witness
invariant-loop-witness l =
    map note_view l.notes.items ++ map case_note (map (λ w. w.now) (drop l.witness-index l.witnesses))
    ≡ map note_view l.initial.notes.items ++ map case_note (map (λ w. w.now) l.witnesses)
