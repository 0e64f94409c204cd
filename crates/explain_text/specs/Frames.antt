-- The place of a finding with its line. The text is the file behind its byte order mark, and places are of that text.
use Rattle.std.specs.Prelude.{◌≡◌, ℕ, ◌-◌, max, List, [], ◌∷◌, ◌++◌, length, replicate, codes, decimal, chars, string_bytes, Bool, false}
use Rattle.unicode_width.specs.Width.{str_width}
use Rattle.explain_lines.specs.Lines.{spot_at}
use Rattle.explain_places.specs.declared.spans.Span.{Span}
use Rattle.explain_text.specs.Shown.{left_part, right_part, marked_part}
use Rattle.explain_text.specs.Styles.{styled}
use Rattle.explain_text.specs.declared.frames.Parts.{Parts}
use Rattle.explain_text.specs.declared.styles.Style.{Style}
use Rattle.explain_text.specs.declared.styles.Style.TheVariants.{Frame}

-- the name of the file, the line and the column
unfoldable pub place_text : List ℕ → List ℕ → ℕ → List ℕ
place_text name text at =
    name ++ (codes ":" ++ (decimal (spot_at text at).line ++ (codes ":" ++ decimal (spot_at text at).column)))

-- the blanks below a line's number
abbrev pub gutter : ℕ → List ℕ
gutter line = replicate (length (decimal line)) 32

-- what stands before a line below another one, as far as its bar
abbrev pub bar_text : List ℕ → List ℕ
bar_text pad = pad ++ codes " |"

-- where the finding stands, and an empty line
unfoldable pub arrow_text : Bool → List ℕ → List ℕ → List ℕ → List ℕ → ℕ → List ℕ
arrow_text paint pad bar name text at =
    pad ++ (styled paint Frame (codes "--> ") ++ (place_text name text at ++ (codes "\n" ++ (styled paint Frame bar ++ codes "\n"))))

-- the line with its number
unfoldable pub source_text : Bool → List ℕ → List ℕ → List ℕ → List ℕ
source_text paint head left right = styled paint Frame head ++ (codes " " ++ (left ++ (right ++ codes "\n")))

-- carets below what is marked, at least one, and what is said of it
abbrev pub marks_text : List ℕ → List ℕ → List ℕ
marks_text marked label = replicate (max (str_width false (chars marked)) 1) 94 ++ label

-- the blanks below what is shown before a mark
abbrev pub indent_text : List ℕ → List ℕ
indent_text left = replicate (str_width false (chars left)) 32

-- marks in a style, behind blanks
unfoldable pub caret_text : Bool → Style → List ℕ → List ℕ → List ℕ → List ℕ
caret_text paint style bar space marks = styled paint Frame bar ++ (codes " " ++ (space ++ (styled paint style marks ++ codes "\n")))

-- the place of what stands from one byte to another, its line, and carets with a label in a style
unfoldable pub frame_text : Bool → Style → List ℕ → List ℕ → List ℕ → ℕ → ℕ → List ℕ
frame_text paint style label name text at to =
    arrow_text paint (gutter (spot_at text at).line) (bar_text (gutter (spot_at text at).line)) name text at
    ++ (source_text paint (bar_text (decimal (spot_at text at).line)) (left_part text at) (right_part text at)
    ++ caret_text paint style (bar_text (gutter (spot_at text at).line)) (indent_text (left_part text at)) (marks_text (marked_part text at to) label))

-- the same of a span of the file, whose byte order mark has so many bytes
abbrev pub span_text : Bool → Style → List ℕ → List ℕ → List ℕ → ℕ → Span → List ℕ
span_text paint style label name text mark s = frame_text paint style label name text (s.from - mark) (s.to - mark)

-- the parts of that line and of what stands around it
pub record AreParts (text : List ℕ) (at to : ℕ) (label : List ℕ) (parts : Parts) : Type 0 where
  pub pad : string_bytes parts.pad ≡ gutter (spot_at text at).line
  pub bar : string_bytes parts.bar ≡ bar_text (gutter (spot_at text at).line)
  pub head : string_bytes parts.head ≡ bar_text (decimal (spot_at text at).line)
  pub left : string_bytes parts.left ≡ left_part text at
  pub right : string_bytes parts.right ≡ right_part text at
  pub space : string_bytes parts.space ≡ indent_text (left_part text at)
  pub marks : string_bytes parts.marks ≡ marks_text (marked_part text at to) label
