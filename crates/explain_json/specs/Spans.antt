-- Spans of a file as JSON (https://doc.rust-lang.org/rustc/json.html, "spans"). The text is the file behind its byte order
-- mark, which has so many bytes.
use Rattle.std.specs.Prelude.{ℕ, ◌-◌, min, max, List, length, drop, true, codes, Option, Some, None}
use Rattle.serde_json.specs.Data.{Data, null, boolean, string, array, object, Items, no_items, item, no_members, member}
use Rattle.explain_lines.specs.Lines.{spot_at}
use Rattle.explain_lines.specs.declared.spots.Spot.{Spot}
use Rattle.explain_places.specs.declared.spans.Span.{Span}
use Rattle.explain_places.specs.declared.spans.Place.{Place}
use Rattle.explain_places.specs.declared.spans.Place.TheVariants.{Nowhere, There, Lost}
use Rattle.explain_json.specs.Values.{count_data, text_data}
use Rattle.explain_json.specs.Lines.{lines_items}

-- where a span ends in the text: not before it begins, and not behind the text
abbrev pub end_in : List ℕ → ℕ → Span → ℕ
end_in text mark s = max (min (s.to - mark) (length text)) (s.from - mark)

-- the lines from one spot of the text to another
abbrev pub spot_lines : List ℕ → Spot → Spot → Items
spot_lines text from to = lines_items (to.line - from.line) (from.at - from.start) (to.at - from.start) (drop from.start text)

-- how far a replacement can be trusted: people are to fill it in
abbrev pub applicability : Option (List ℕ) → Option (List ℕ)
applicability None = None
applicability (Some replacement) = Some (codes "HasPlaceholders")

-- a span from one spot of the text to another, with its label and with what is to be put in its place
abbrev pub spots_data : List ℕ → List ℕ → Span → Spot → Spot → Option (List ℕ) → Option (List ℕ) → Data
spots_data name text s from to label replacement =
    object (member (codes "byte_end") (count_data s.to)
    (member (codes "byte_start") (count_data s.from)
    (member (codes "column_end") (count_data to.column)
    (member (codes "column_start") (count_data from.column)
    (member (codes "expansion") null
    (member (codes "file_name") (string name)
    (member (codes "is_primary") (boolean true)
    (member (codes "label") (text_data label)
    (member (codes "line_end") (count_data to.line)
    (member (codes "line_start") (count_data from.line)
    (member (codes "suggested_replacement") (text_data replacement)
    (member (codes "suggestion_applicability") (text_data (applicability replacement))
    (member (codes "text") (array (spot_lines text from to)) no_members)))))))))))))

-- a span of the file of this name
abbrev pub span_data : List ℕ → List ℕ → ℕ → Span → Option (List ℕ) → Option (List ℕ) → Data
span_data name text mark s label replacement =
    spots_data name text s (spot_at text (s.from - mark)) (spot_at text (end_in text mark s)) label replacement

-- the spans of a place: one, or none where there is no place
abbrev pub place_items : List ℕ → List ℕ → ℕ → Place → Option (List ℕ) → Option (List ℕ) → Items
place_items name text mark (There s) label replacement = item (span_data name text mark s label replacement) no_items
place_items name text mark Nowhere label replacement = no_items
place_items name text mark Lost label replacement = no_items
