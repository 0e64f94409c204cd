-- A finding in words, part by part.
use Rattle.std.proofs.Common.{◌≡◌, ◌∙◌, ap, ℕ, List, Bool, map, String, string_bytes}
use Rattle.std.specs.Global.{Vec, Global}
use Rattle.explain_places.specs.declared.spans.Place.{Place}
use Rattle.explain_text.specs.Diagnosing.{diagnostic_of}
use Rattle.explain_text.specs.Diagnostics.{DiagnosticTree, NoteTree, diagnostic_view, note_view}
use Rattle.explain_text.specs.Findings.{FindingTree}
use Rattle.explain_text.specs.Messages.{code_text, is_error, label_text, place_name, title_text}
use Rattle.explain_text.specs.Notes.{notes_of}
use Rattle.explain_text.specs.declared.diagnostics.Note.{Note}

abbrev made : Bool → List ℕ → List ℕ → Place → List ℕ → List NoteTree → DiagnosticTree
made breaks code title place label notes = record { breaks = breaks; code = code; title = title; place = place; label = label; notes = notes }

-- a finding with these parts
pub described_one : (text : List ℕ) (mark : ℕ) (arms : List (List (List ℕ))) (f : FindingTree) (breaks : Bool) (code title label : String Global) (notes : Vec Note)
    (name : List ℕ) → name ≡ place_name text mark f.place → breaks ≡ is_error f.kind → string_bytes code ≡ code_text f.kind → string_bytes title ≡ title_text name f.kind →
    string_bytes label ≡ label_text name f.kind → map note_view notes.items ≡ notes_of arms name f.kind →
    made breaks (string_bytes code) (string_bytes title) f.place (string_bytes label) (map note_view notes.items) ≡ diagnostic_of text mark arms f
described_one text mark arms f breaks code title label notes name n b c t l ns =
    ap (λ x. made x (string_bytes code) (string_bytes title) f.place (string_bytes label) (map note_view notes.items)) b
    ∙ ap (λ x. made (is_error f.kind) x (string_bytes title) f.place (string_bytes label) (map note_view notes.items)) c
    ∙ ap (λ x. made (is_error f.kind) (code_text f.kind) x f.place (string_bytes label) (map note_view notes.items)) t
    ∙ ap (λ x. made (is_error f.kind) (code_text f.kind) (title_text name f.kind) f.place x (map note_view notes.items)) l
    ∙ ap (λ x. made (is_error f.kind) (code_text f.kind) (title_text name f.kind) f.place (label_text name f.kind) x) ns
    ∙ ap (λ x. made (is_error f.kind) (code_text f.kind) (title_text x f.kind) f.place (label_text x f.kind) (notes_of arms x f.kind)) n
