-- What is still to be looked at of a column.
use Rattle.std.specs.Prelude.{ℕ, ◌-◌, List, map, reverse}
use Rattle.std.specs.List.{flat_map}
use Rattle.constructor_sets.specs.declared.piece.Span.{Span}
use Rattle.constructor_sets.specs.Spans.{plain_span}
use Rattle.pattern_matrix.specs.declared.halving.Part.{Part}
use Rattle.pattern_matrix.specs.Sparse.{columns_from}
use Rattle.pattern_matrix.specs.Halving.{IsPart}

-- the spans, as pairs
abbrev pub plain_spans : List Span → List (ℕ × ℕ)
plain_spans spans = map plain_span spans

-- the part has, for each of its pieces, all leaves that have it
abbrev pub IsFull : List Span → Part → Type 0
IsFull spans p = IsPart (plain_spans spans) p.first p.end p.leaves.items

-- the pieces of a part, ascending
abbrev pub pieces_in : Part → List ℕ
pieces_in p = columns_from p.first (p.end - p.first)

-- the pieces of the parts, those of the last one first
abbrev pub pieces_left : List Part → List ℕ
pieces_left parts = flat_map pieces_in (reverse parts)
