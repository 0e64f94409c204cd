-- From a report to its findings as data.
use Rattle.std.specs.Prelude.{◌≡◌, ◌&&◌, ℕ, List, Bool, true, false, if◌then◌else◌, drop, length, map, nat_le, Option, Some, None, Result, Ok, Err, ⊤}
use Rattle.std.specs.Global.{Vec}
use Rattle.std.specs.List.{list_all}
use Rattle.serde_json.specs.Data.{Data}
use Rattle.explain_report.specs.Records.{ReportTree}
use Rattle.explain_report.specs.Reading.{report_of}
use Rattle.explain_places.specs.declared.pieces.Piece.{Piece}
use Rattle.explain_places.specs.declared.spans.Place.{Place}
use Rattle.explain_places.specs.declared.spans.Place.TheVariants.{Nowhere, There, Lost}
use Rattle.explain_places.specs.Pieces.{ArePieces}
use Rattle.explain_text.specs.Diagnostics.{DiagnosticTree, NoteTree, diagnostic_view}
use Rattle.explain_text.specs.Findings.{FindingTree, report_findings}
use Rattle.explain_text.specs.Messages.{code_text, is_error, label_text, place_name, title_text}
use Rattle.explain_text.specs.Notes.{notes_of}
use Rattle.explain_text.specs.Order.{in_file_order}
use Rattle.explain_text.specs.Sources.{mark_length}
use Rattle.explain_text.specs.declared.diagnostics.Diagnostic.{Diagnostic}
use Rattle.explain_text.specs.declared.diagnosing.Fault.{Fault}
use Rattle.explain_text.specs.declared.diagnosing.Fault.TheVariants.{NoReport, NoPlace, NoMemory}

-- a finding in words, by the text behind a byte order mark of so many bytes and the arms to add to each function
abbrev pub diagnostic_of : List ℕ → ℕ → List (List (List ℕ)) → FindingTree → DiagnosticTree
diagnostic_of text mark arms f = record {
  breaks = is_error f.kind;
  code = code_text f.kind;
  title = title_text (place_name text mark f.place) f.kind;
  place = f.place;
  label = label_text (place_name text mark f.place) f.kind;
  notes = notes_of arms (place_name text mark f.place) f.kind;
}

-- the findings of a report on the file, in the order of their places
abbrev pub findings_of : List ℕ → List Piece → ReportTree → List FindingTree
findings_of file ps report = in_file_order (report_findings file ps report)

-- the same in words
abbrev pub described : List ℕ → List (List (List ℕ)) → List FindingTree → List DiagnosticTree
described file arms fs = map (diagnostic_of (drop (mark_length file) file) (mark_length file) arms) fs

-- a place is in the file, or none is told
abbrev pub is_found : List ℕ → Place → Bool
is_found file (There s) = nat_le s.from (length file)
is_found file Nowhere = true
is_found file Lost = false

abbrev pub is_note_found : List ℕ → NoteTree → Bool
is_note_found file n = is_found file n.place

-- all places of a finding are in the file
abbrev pub is_inside : List ℕ → DiagnosticTree → Bool
is_inside file d = is_found file d.place && list_all (is_note_found file) d.notes

-- what becomes of a report: its findings; or it is none; or a place is not in the file
pub data Diagnosis : Type 0 where
  Diagnosed : List DiagnosticTree → Diagnosis
  NotReport : Diagnosis
  NotInFile : Diagnosis

-- findings of which all places are to be in the file
abbrev pub checked : List ℕ → List DiagnosticTree → Diagnosis
checked file ds = if list_all (is_inside file) ds then Diagnosed ds else NotInFile

-- what becomes of a report, where it is one
abbrev pub diagnosis_of_report : List ℕ → List (List (List ℕ)) → List Piece → Option ReportTree → Diagnosis
diagnosis_of_report file arms ps None = NotReport
diagnosis_of_report file arms ps (Some report) = checked file (described file arms (findings_of file ps report))

-- what becomes of a JSON value, where there is one
unfoldable pub diagnosis_of_json : List ℕ → List (List (List ℕ)) → List Piece → Option Data → Diagnosis
diagnosis_of_json file arms ps None = NotReport
diagnosis_of_json file arms ps (Some d) = diagnosis_of_report file arms ps (report_of d)

-- the same with the arms that are told, where they are, beside a file that has these tokens
abbrev pub diagnosis_of : List ℕ → Option Data → Option (List (List (List ℕ))) → List Piece → Diagnosis
diagnosis_of file json None ps = NotReport
diagnosis_of file json (Some arms) ps = diagnosis_of_json file arms ps json

-- the answer is this; memory may be wanted and refused
abbrev pub Diagnoses : Diagnosis → Result (Vec Diagnostic) Fault → Type 0
Diagnoses d (Ok ds) = d ≡ Diagnosed (map diagnostic_view ds.items)
Diagnoses d (Err NoReport) = d ≡ NotReport
Diagnoses d (Err NoPlace) = d ≡ NotInFile
Diagnoses d (Err NoMemory) = ⊤

-- the same by the tokens of the file
abbrev pub DiagnosesBy : List ℕ → (List Piece → Diagnosis) → Result (Vec Diagnostic) Fault → Type 0
DiagnosesBy file d (Ok ds) = (ps : List Piece) × ArePieces file ps × (d ps ≡ Diagnosed (map diagnostic_view ds.items))
DiagnosesBy file d (Err NoReport) = (ps : List Piece) × ArePieces file ps × (d ps ≡ NotReport)
DiagnosesBy file d (Err NoPlace) = (ps : List Piece) × ArePieces file ps × (d ps ≡ NotInFile)
DiagnosesBy file d (Err NoMemory) = ⊤
