-- A finding as a diagnostic of rustc (https://doc.rust-lang.org/rustc/json.html, "Diagnostics"). Keys are in ascending order.
use Rattle.std.specs.Prelude.{ℕ, List, [], ◌∷◌, ◌++◌, map, Bool, if◌then◌else◌, codes, Option, Some, None}
use Rattle.serde_json.specs.Data.{Data, null, string, array, object, no_items, no_members, member}
use Rattle.serde_json.specs.View.{items_of}
use Rattle.serde_json.specs.Written.{compact_text}
use Rattle.explain_text.specs.Diagnostics.{DiagnosticTree, NoteTree}
use Rattle.explain_text.specs.Texts.{diagnostic_text}
use Rattle.explain_text.specs.declared.diagnostics.NoteLevel.{NoteLevel}
use Rattle.explain_text.specs.declared.diagnostics.NoteLevel.TheVariants as levels
use Rattle.explain_json.specs.Spans.{place_items}
use Rattle.explain_json.specs.Replacements.{replacement_of}

-- the level of a note
abbrev pub note_level : NoteLevel → List ℕ
note_level levels.Note = codes "note"
note_level levels.Help = codes "help"

-- the level of a finding
abbrev pub finding_level : Bool → List ℕ
finding_level breaks = if breaks then codes "error" else codes "warning"

-- a note on a finding, of the file of this name
abbrev pub note_data : List ℕ → List ℕ → ℕ → NoteTree → Data
note_data name text mark n =
    object (member (codes "children") (array no_items)
    (member (codes "code") null
    (member (codes "level") (string (note_level n.level))
    (member (codes "message") (string n.text)
    (member (codes "rendered") null
    (member (codes "spans") (array (place_items name text mark n.place None (replacement_of n))) no_members))))))

-- the short name of what is found, told apart from the codes of others
abbrev pub code_text : DiagnosticTree → List ℕ
code_text d = codes "matchcheck::" ++ d.code

abbrev pub code_data : DiagnosticTree → Data
code_data d = object (member (codes "code") (string (code_text d)) (member (codes "explanation") null no_members))

-- a finding of the file of this name, with its text in colours or in none
abbrev pub finding_data : Bool → List ℕ → List ℕ → ℕ → DiagnosticTree → Data
finding_data paint name text mark d =
    object (member (codes "$message_type") (string (codes "diagnostic"))
    (member (codes "children") (array (items_of (map (note_data name text mark) d.notes)))
    (member (codes "code") (code_data d)
    (member (codes "level") (string (finding_level d.breaks))
    (member (codes "message") (string d.title)
    (member (codes "rendered") (string (diagnostic_text paint name text mark d))
    (member (codes "spans") (array (place_items name text mark d.place (Some d.label) None)) no_members)))))))

-- the same as a line
unfoldable pub finding_line : Bool → List ℕ → List ℕ → ℕ → DiagnosticTree → List ℕ
finding_line paint name text mark d = compact_text (finding_data paint name text mark d) ++ 10 ∷ []
