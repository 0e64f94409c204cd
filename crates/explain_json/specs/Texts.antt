-- The whole text: a line of JSON for each finding, in the order of their places, and nothing else.
use Rattle.std.specs.Prelude.{◌≡◌, ℕ, List, drop, Bool, false, Result, Ok, Err, ⊤, string_bytes}
use Rattle.std.specs.List.{flat_map, list_any}
use Rattle.explain_places.specs.declared.pieces.Piece.{Piece}
use Rattle.explain_places.specs.Pieces.{ArePieces}
use Rattle.explain_text.specs.Sources.{mark_length}
use Rattle.explain_text.specs.Diagnosing.{Diagnosis, Diagnosed, NotReport, NotInFile}
use Rattle.explain_text.specs.Diagnostics.{DiagnosticTree}
use Rattle.explain_text.specs.declared.explaining.Explained.{Explained}
use Rattle.explain_text.specs.declared.diagnosing.Fault.{Fault}
use Rattle.explain_text.specs.declared.diagnosing.Fault.TheVariants.{NoReport, NoPlace, NoMemory}
use Rattle.explain_json.specs.Diagnostics.{finding_line}

-- these findings of the file of this name, without colours
abbrev pub findings_text : List ℕ → List ℕ → List DiagnosticTree → List ℕ
findings_text name file ds = flat_map (finding_line false name (drop (mark_length file) file) (mark_length file)) ds

-- one of them breaks a build
abbrev pub any_breaks : List DiagnosticTree → Bool
any_breaks ds = list_any (λ d. d.breaks) ds

-- the text of these findings, and whether one breaks a build
pub record IsTextOf (name file : List ℕ) (ds : List DiagnosticTree) (e : Explained) : Type 0 where
  pub text : string_bytes e.text ≡ findings_text name file ds
  pub breaks : e.breaks ≡ any_breaks ds

-- the answer to what a report has found: the text of its findings, or that it is no report, or that a place is not in the
-- file; memory may be wanted and refused
abbrev pub Answers : List ℕ → List ℕ → Diagnosis → Result Explained Fault → Type 0
Answers name file diagnosis (Ok e) = (ds : List DiagnosticTree) × (diagnosis ≡ Diagnosed ds) × IsTextOf name file ds e
Answers name file diagnosis (Err NoReport) = diagnosis ≡ NotReport
Answers name file diagnosis (Err NoPlace) = diagnosis ≡ NotInFile
Answers name file diagnosis (Err NoMemory) = ⊤

-- the same by the tokens of the file
abbrev pub AnswersBy : List ℕ → List ℕ → (List Piece → Diagnosis) → Result Explained Fault → Type 0
AnswersBy name file diagnosis (Ok e) = (ps : List Piece) × ArePieces file ps × Answers name file (diagnosis ps) (Ok e)
AnswersBy name file diagnosis (Err NoReport) = (ps : List Piece) × ArePieces file ps × (diagnosis ps ≡ NotReport)
AnswersBy name file diagnosis (Err NoPlace) = (ps : List Piece) × ArePieces file ps × (diagnosis ps ≡ NotInFile)
AnswersBy name file diagnosis (Err NoMemory) = ⊤
