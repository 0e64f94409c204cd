-- The spans that are known of the rows of a column.
use Rattle.std.specs.Prelude.{◌≡◌, ◌+◌, List, Option, Some, None, set, slice_index_or}
use Rattle.match_model.specs.Constructors.{FixedShape, LongerShape, MCtor, RowCtor}
use Rattle.constructor_sets.specs.declared.known.Known.{Known}
use Rattle.constructor_sets.specs.declared.piece.Span.{Span}
use Rattle.constructor_sets.specs.Spans.{plain_span, IsSpan}

-- what is known of a row
abbrev pub known_of : Known → MCtor → Option Span
known_of k (RowCtor (FixedShape n)) = slice_index_or k.fixed.items n None
known_of k (RowCtor (LongerShape f b)) = slice_index_or k.longer.items (f + b) None
known_of k _ = None

-- what is known of a row is what it has
abbrev pub AreKnown : (pieces : List MCtor) → Known → Type 0
AreKnown pieces k = (h : MCtor) (s : Span) → known_of k h ≡ Some s → IsSpan pieces h (plain_span s)

-- the span of a row is kept, where there is room for its length
abbrev pub Keeps : MCtor → Span → (old new : Known) → Type 0
Keeps (RowCtor (FixedShape n)) s old new = (new.fixed.items ≡ set old.fixed.items n (Some s)) × (new.longer.items ≡ old.longer.items)
Keeps (RowCtor (LongerShape f b)) s old new = (new.fixed.items ≡ old.fixed.items) × (new.longer.items ≡ set old.longer.items (f + b) (Some s))
Keeps _ s old new = new ≡ old
