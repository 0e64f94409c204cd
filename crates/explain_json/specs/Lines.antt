-- The lines of a span as JSON (https://doc.rust-lang.org/rustc/json.html, "text" of a span).
use Rattle.std.specs.Prelude.{ℕ, zero, suc, ◌+◌, ◌-◌, List, length, take, drop, count_by, codes}
use Rattle.std.specs.Str.Lossy.{utf8_lossy}
use Rattle.serde_json.specs.Data.{Data, string, object, Items, no_items, item, no_members, member}
use Rattle.explain_lines.specs.Lines.{begins_character, first_line, shown_after}
use Rattle.explain_json.specs.Values.{count_data}

-- how many characters of a line are shown
abbrev pub most : ℕ
most = 1000

-- what is shown of the first line of these bytes
abbrev pub shown_line : List ℕ → List ℕ
shown_line bytes = shown_after most bytes 0

-- the column of a byte of a line, counted from 1 by the characters before it
abbrev pub column_in : List ℕ → ℕ → ℕ
column_in line at = count_by begins_character (take at line) + 1

-- a line, marked from one byte of it to another
abbrev pub line_data : ℕ → ℕ → List ℕ → Data
line_data from to line =
    object (member (codes "highlight_end") (count_data (column_in line to))
    (member (codes "highlight_start") (count_data (column_in line from))
    (member (codes "text") (string (utf8_lossy line)) no_members)))

-- how many bytes the first line of these bytes takes, with its line feed
abbrev pub line_width : List ℕ → ℕ
line_width bytes = length (first_line bytes) + 1

-- the first lines of these bytes, one and so many more, marked from one byte to another
unfoldable pub lines_items : ℕ → ℕ → ℕ → List ℕ → Items
lines_items zero from to bytes = item (line_data from to (shown_line bytes)) no_items
lines_items (suc more) from to bytes =
    item (line_data from to (shown_line bytes)) (lines_items more (from - line_width bytes) (to - line_width bytes) (drop (line_width bytes) bytes))
