-- The text of findings.
use Rattle.std.specs.Prelude.{◌≡◌, ℕ, ◌-◌, List, [], ◌∷◌, ◌++◌, length, drop, Bool, true, false, if◌then◌else◌, Option, Result, Ok, Err, ⊤, codes, decimal, count_by, string_bytes, nat_lt}
use Rattle.std.specs.List.{flat_map}
use Rattle.serde_json.specs.Data.{Data}
use Rattle.explain_places.specs.declared.pieces.Piece.{Piece}
use Rattle.explain_places.specs.declared.spans.Place.{Place}
use Rattle.explain_places.specs.declared.spans.Place.TheVariants.{Nowhere, There, Lost}
use Rattle.explain_places.specs.Pieces.{ArePieces}
use Rattle.explain_text.specs.Diagnosing.{Diagnosis, Diagnosed, NotInFile, NotReport, diagnosis_of}
use Rattle.explain_text.specs.Diagnostics.{DiagnosticTree, NoteTree}
use Rattle.explain_text.specs.Frames.{place_text, span_text}
use Rattle.explain_text.specs.Sources.{mark_length}
use Rattle.explain_text.specs.Styles.{styled}
use Rattle.explain_text.specs.declared.diagnostics.NoteLevel.{NoteLevel}
use Rattle.explain_text.specs.declared.diagnostics.NoteLevel.TheVariants as levels
use Rattle.explain_text.specs.declared.explaining.Explained.{Explained}
use Rattle.explain_text.specs.declared.explaining.Manner.{Manner}
use Rattle.explain_text.specs.declared.explaining.Form.{Form}
use Rattle.explain_text.specs.declared.explaining.Form.TheVariants.{Full, Short}
use Rattle.explain_text.specs.declared.diagnosing.Fault.{Fault}
use Rattle.explain_text.specs.declared.diagnosing.Fault.TheVariants as faults
use Rattle.explain_text.specs.declared.styles.Style.{Style}
use Rattle.explain_text.specs.declared.styles.Style.TheVariants as styles

-- how bad a finding is, and its style
abbrev pub level_text : Bool → List ℕ
level_text breaks = if breaks then codes "error" else codes "warning"

abbrev pub level_style : Bool → Style
level_style breaks = if breaks then styles.Error else styles.Warning

-- what a note is called, and its style
abbrev pub note_word : NoteLevel → List ℕ
note_word levels.Note = codes "note"
note_word levels.Help = codes "help"

abbrev pub note_style : NoteLevel → Style
note_style levels.Note = styles.Note
note_style levels.Help = styles.Help

-- the first line of a finding
unfoldable pub heading_text : Bool → Bool → List ℕ → List ℕ
heading_text paint breaks title =
    styled paint (level_style breaks) (level_text breaks) ++ (codes ": " ++ (styled paint styles.Bold title ++ codes "\n"))

-- a note of words alone
unfoldable pub words_text : Bool → List ℕ → List ℕ → List ℕ
words_text paint word text =
    codes "  " ++ (styled paint styles.Frame (codes "= ") ++ (styled paint styles.Bold word ++ (codes ": " ++ (text ++ codes "\n"))))

-- the first line of a note that more lines follow
unfoldable pub block_text : Bool → NoteLevel → List ℕ → List ℕ
block_text paint level text = styled paint (note_style level) (note_word level) ++ (codes ": " ++ (text ++ codes "\n"))

-- where a finding stands of which no place is told
unfoldable pub nowhere_text : Bool → List ℕ → List ℕ → List ℕ
nowhere_text paint name label =
    styled paint styles.Frame (codes "--> ") ++ (name ++ (codes "\n" ++ words_text paint (codes "note") label))

-- where a finding stands, with what is said there: its place and its line, or the file alone
abbrev pub position_text : Bool → List ℕ → List ℕ → ℕ → Bool → List ℕ → Place → List ℕ
position_text paint name text mark breaks label (There s) = span_text paint (level_style breaks) (codes " " ++ label) name text mark s
position_text paint name text mark breaks label Nowhere = nowhere_text paint name label
position_text paint name text mark breaks label Lost = nowhere_text paint name label

-- a line of code to put in
abbrev pub code_line : List ℕ → List ℕ
code_line line = codes "        " ++ (line ++ codes "\n")

-- a note without lines of code: what it is about, and its line; or its words alone
abbrev pub placed_text : Bool → List ℕ → List ℕ → ℕ → NoteLevel → List ℕ → Place → List ℕ
placed_text paint name text mark level words (There s) =
    block_text paint level words ++ span_text paint (note_style level) [] name text mark s
placed_text paint name text mark level words Nowhere = words_text paint (note_word level) words
placed_text paint name text mark level words Lost = words_text paint (note_word level) words

-- a note: with its lines of code, where it has some
abbrev pub lined_text : Bool → List ℕ → List ℕ → ℕ → NoteTree → List (List ℕ) → List ℕ
lined_text paint name text mark n [] = placed_text paint name text mark n.level n.text n.place
lined_text paint name text mark n (l ∷ ls) = block_text paint n.level n.text ++ flat_map code_line (l ∷ ls)

abbrev pub note_text : Bool → List ℕ → List ℕ → ℕ → NoteTree → List ℕ
note_text paint name text mark n = lined_text paint name text mark n n.lines

-- a finding
unfoldable pub diagnostic_text : Bool → List ℕ → List ℕ → ℕ → DiagnosticTree → List ℕ
diagnostic_text paint name text mark d =
    heading_text paint d.breaks d.title
    ++ (position_text paint name text mark d.breaks d.label d.place ++ (flat_map (note_text paint name text mark) d.notes ++ codes "\n"))

-- how many findings break a build
abbrev pub error_count : List DiagnosticTree → ℕ
error_count ds = count_by (λ d. d.breaks) ds

-- how many findings there are
abbrev pub counts_text : ℕ → ℕ → List ℕ
counts_text errors warnings = codes "errors: " ++ (decimal errors ++ (codes ", warnings: " ++ (decimal warnings ++ codes "\n")))

-- all findings and a last line with counts; nothing where there are none
abbrev pub whole_text : Bool → List ℕ → List ℕ → ℕ → List DiagnosticTree → List ℕ
whole_text paint name text mark [] = []
whole_text paint name text mark (d ∷ ds) =
    flat_map (diagnostic_text paint name text mark) (d ∷ ds) ++ counts_text (error_count (d ∷ ds)) (length (d ∷ ds) - error_count (d ∷ ds))

-- the name of the file, and the line and column where a place is told
abbrev pub short_place : List ℕ → List ℕ → ℕ → Place → List ℕ
short_place name text mark (There s) = place_text name text (s.from - mark)
short_place name text mark Nowhere = name
short_place name text mark Lost = name

-- a finding in one line, as in rustc's short form
unfoldable pub short_text : Bool → List ℕ → List ℕ → ℕ → DiagnosticTree → List ℕ
short_text paint name text mark d =
    short_place name text mark d.place
    ++ (codes ": " ++ (styled paint (level_style d.breaks) (level_text d.breaks) ++ (codes ": " ++ (d.title ++ (codes ": " ++ (d.label ++ codes "\n"))))))

-- all findings in one line each
abbrev pub short_texts : Bool → List ℕ → List ℕ → ℕ → List DiagnosticTree → List ℕ
short_texts paint name text mark ds = flat_map (short_text paint name text mark) ds

-- the findings in a form
abbrev pub form_text : Form → Bool → List ℕ → List ℕ → ℕ → List DiagnosticTree → List ℕ
form_text Full paint name text mark ds = whole_text paint name text mark ds
form_text Short paint name text mark ds = short_texts paint name text mark ds

-- what is told of the file of this name: a text, and whether a finding breaks a build; or there is no report, or a place
-- is not in the file
pub data Outcome : Type 0 where
  Told : List ℕ → Bool → Outcome
  NoReport : Outcome
  NoPlace : Outcome

abbrev pub told_of : Manner → List ℕ → List ℕ → Diagnosis → Outcome
told_of manner name file (Diagnosed ds) =
    Told (form_text manner.form manner.paint name (drop (mark_length file) file) (mark_length file) ds) (nat_lt 0 (error_count ds))
told_of manner name file NotReport = NoReport
told_of manner name file NotInFile = NoPlace

-- what is told of a report and of a report of `arms`, beside a file that has these tokens
abbrev pub outcome_of : Manner → List ℕ → List ℕ → Option Data → Option (List (List (List ℕ))) → List Piece → Outcome
outcome_of manner name file report arms ps = told_of manner name file (diagnosis_of file report arms ps)

-- the answer is this outcome by the tokens of the file; memory may be wanted and refused
abbrev pub AnswersBy : List ℕ → (List Piece → Outcome) → Result Explained Fault → Type 0
AnswersBy file outcome (Ok e) = (ps : List Piece) × ArePieces file ps × (outcome ps ≡ Told (string_bytes e.text) e.breaks)
AnswersBy file outcome (Err faults.NoReport) = (ps : List Piece) × ArePieces file ps × (outcome ps ≡ NoReport)
AnswersBy file outcome (Err faults.NoPlace) = (ps : List Piece) × ArePieces file ps × (outcome ps ≡ NoPlace)
AnswersBy file outcome (Err faults.NoMemory) = ⊤
