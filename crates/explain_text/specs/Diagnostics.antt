-- A finding as data: what every form of output shows of it.
use Rattle.std.specs.Prelude.{◌≤◌, ℕ, ◌-◌, Bool, List, map, string_bytes}
use Rattle.std.specs.List.{All}
use Rattle.explain_places.specs.declared.spans.Place.{Place}
use Rattle.explain_text.specs.Order.{start_of}
use Rattle.explain_text.specs.declared.diagnostics.NoteLevel.{NoteLevel}
use Rattle.explain_text.specs.declared.diagnostics.Note.{Note}
use Rattle.explain_text.specs.declared.diagnostics.Diagnostic.{Diagnostic}

-- what is said besides: whether it helps, its words, the place that it is about, and lines of code for that place, before
-- which a comma may have to stand
pub record NoteTree : Type 0 where
  pub level : NoteLevel
  pub text : List ℕ
  pub place : Place
  pub comma : Bool
  pub lines : List (List ℕ)

-- a finding: whether it breaks a build, its code, its title, its place with a label, and its notes
pub record DiagnosticTree : Type 0 where
  pub breaks : Bool
  pub code : List ℕ
  pub title : List ℕ
  pub place : Place
  pub label : List ℕ
  pub notes : List NoteTree

abbrev pub note_view : Note → NoteTree
note_view n = record { level = n.level; text = string_bytes n.text; place = n.place; comma = n.comma; lines = map string_bytes n.lines.items }

abbrev pub diagnostic_view : Diagnostic → DiagnosticTree
diagnostic_view d = record {
  breaks = d.breaks;
  code = string_bytes d.code;
  title = string_bytes d.title;
  place = d.place;
  label = string_bytes d.label;
  notes = map note_view d.notes.items;
}

-- the place of a note begins in a text of this length, which stands behind a byte order mark of so many bytes
abbrev pub IsNoteInside : ℕ → ℕ → NoteTree → Type 0
IsNoteInside long mark n = start_of n.place - mark ≤ long

-- so do all places of a finding
pub record IsInside (long mark : ℕ) (d : DiagnosticTree) : Type 0 where
  pub place : start_of d.place - mark ≤ long
  pub notes : All (IsNoteInside long mark) d.notes
