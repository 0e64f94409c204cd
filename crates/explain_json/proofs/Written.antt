-- The JSON of lines, spans, notes and findings, piece by piece.
use Rattle.std.proofs.Common.{◌≡◌, refl, ℕ, List, ◌++◌, map, Bool, false, codes}
use Rattle.std.specs.Prelude.{decimal, Option}
use Rattle.std.specs.Str.Lossy.{utf8_lossy}
use Rattle.serde_json.specs.Data.{string}
use Rattle.serde_json.specs.View.{items_of}
use Rattle.serde_json.specs.Written.{compact_text, items_text}
use Rattle.serde_json.proofs.OnLiterals.{serde_json_on_literals}
use Rattle.explain_lines.specs.declared.spots.Spot.{Spot}
use Rattle.explain_places.specs.declared.spans.Span.{Span}
use Rattle.explain_text.specs.Diagnostics.{DiagnosticTree, NoteTree}
use Rattle.explain_text.specs.Texts.{diagnostic_text}
use Rattle.explain_json.specs.Values.{text_data}
use Rattle.explain_json.specs.Lines.{column_in, line_data}
use Rattle.explain_json.specs.Spans.{applicability, place_items, spot_lines, spots_data}
use Rattle.explain_json.specs.Replacements.{replacement_of}
use Rattle.explain_json.specs.Diagnostics.{code_data, code_text, finding_data, finding_level, note_data, note_level}
use Rattle.std.specs.Prelude.{None, Some}

pub line_written : (from to : ℕ) (line : List ℕ) →
    compact_text (line_data from to line)
    ≡ (codes "{\"highlight_end\":" ++ decimal (column_in line to)) ++ ((codes ",\"highlight_start\":" ++ decimal (column_in line from))
    ++ (codes ",\"text\":" ++ (compact_text (string (utf8_lossy line)) ++ codes "}")))
unfolding serde_json_on_literals
line_written from to line = refl

pub span_written : (name text : List ℕ) (s : Span) (from to : Spot) (label replacement : Option (List ℕ)) →
    compact_text (spots_data name text s from to label replacement)
    ≡ (codes "{\"byte_end\":" ++ decimal s.to) ++ ((codes ",\"byte_start\":" ++ decimal s.from)
    ++ ((codes ",\"column_end\":" ++ decimal to.column) ++ ((codes ",\"column_start\":" ++ decimal from.column)
    ++ (codes ",\"expansion\":null,\"file_name\":" ++ (compact_text (string name)
    ++ (codes ",\"is_primary\":true,\"label\":" ++ (compact_text (text_data label)
    ++ ((codes ",\"line_end\":" ++ decimal to.line) ++ ((codes ",\"line_start\":" ++ decimal from.line)
    ++ (codes ",\"suggested_replacement\":" ++ (compact_text (text_data replacement)
    ++ (codes ",\"suggestion_applicability\":" ++ (compact_text (text_data (applicability replacement))
    ++ (codes ",\"text\":[" ++ (items_text false (spot_lines text from to) ++ codes "}")))))))))))))))
unfolding serde_json_on_literals
span_written name text s from to label replacement = refl

pub note_written : (name text : List ℕ) (mark : ℕ) (n : NoteTree) →
    compact_text (note_data name text mark n)
    ≡ codes "{\"children\":[],\"code\":null,\"level\":" ++ (compact_text (string (note_level n.level))
    ++ (codes ",\"message\":" ++ (compact_text (string n.text)
    ++ (codes ",\"rendered\":null,\"spans\":[" ++ (items_text false (place_items name text mark n.place None (replacement_of n)) ++ codes "}")))))
unfolding serde_json_on_literals
note_written name text mark n = refl

pub code_written : (d : DiagnosticTree) →
    compact_text (code_data d) ≡ codes "{\"code\":" ++ (compact_text (string (code_text d)) ++ codes ",\"explanation\":null}")
unfolding serde_json_on_literals
code_written d = refl

pub finding_written : (paint : Bool) (name text : List ℕ) (mark : ℕ) (d : DiagnosticTree) →
    compact_text (finding_data paint name text mark d)
    ≡ codes "{\"$message_type\":\"diagnostic\",\"children\":[" ++ (items_text false (items_of (map (note_data name text mark) d.notes))
    ++ (codes ",\"code\":" ++ (compact_text (code_data d)
    ++ (codes ",\"level\":" ++ (compact_text (string (finding_level d.breaks))
    ++ (codes ",\"message\":" ++ (compact_text (string d.title)
    ++ (codes ",\"rendered\":" ++ (compact_text (string (diagnostic_text paint name text mark d))
    ++ (codes ",\"spans\":[" ++ (items_text false (place_items name text mark d.place (Some d.label) None) ++ codes "}")))))))))))
unfolding serde_json_on_literals
finding_written paint name text mark d = refl
