-- Which rows have which pieces of a column, and what is still to be looked at of them (our own choice).
use Rattle.std.specs.Prelude.{◌≡◌, ℕ, ◌-◌, List, [], ◌++◌, map, length, slice_get}
use Rattle.std.specs.List.{All, flat_map}
use Rattle.std.specs.Option.{option_to_list}
use Rattle.match_model.specs.Constructors.{MCtor}
use Rattle.match_model.specs.Matrices.{MRow}
use Rattle.match_model.specs.Places.{MStep}
use Rattle.match_model.specs.Rows.{Head}
use Rattle.match_model.specs.Steps.{Replacement, rows_at}
use Rattle.constructor_sets.specs.declared.piece.Span.{Span}
use Rattle.pattern_matrix.specs.Halving.{AreLeafSpans}
use Rattle.pattern_matrix.specs.Parts.{plain_spans, pieces_left}
use Rattle.pattern_matrix.specs.Sparse.{SparseLeaf, columns_from}
use Rattle.pattern_matrix.specs.declared.halving.Part.{Part}
use Rattle.decision_tree.specs.Cutting.{head_there, IsCutPart}

-- the head as a leaf
abbrev pub leaf_of : {T : Type 0} → Head T → (chosen : List ℕ) → SparseLeaf T
leaf_of h chosen = record { row = 0; head = h; chosen = chosen }

-- that of the row in the column
abbrev pub column_leaf : {T : Type 0} → (i : ℕ) → MRow T → SparseLeaf T
column_leaf i r = leaf_of (head_there i r.heads) []

-- those of the rows
abbrev pub column_leaves : {T : Type 0} → (i : ℕ) → List (MRow T) → List (SparseLeaf T)
column_leaves i rows = map (column_leaf i) rows

-- the span, where pieces are counted from the last of so many to the first
abbrev pub mirrored : (count : ℕ) → ℕ × ℕ → ℕ × ℕ
mirrored count s = (count - s.1, count - s.0)

-- what these rows of all become where the heads of the column are replaced
abbrev pub listed_at : {T : Type 0} → (Head T → List (Replacement T)) → List MStep → (i : ℕ) → List (MRow T) →
    (numbers : List ℕ) → List (MRow T)
listed_at f place i rows numbers = flat_map (λ k. rows_at f place i (option_to_list (slice_get rows k))) numbers

-- of the pieces of column `i` these are not done: their numbers are left, and with each part come rows that are enough for
-- its pieces, where pieces are counted from the last to the first
pub record AreCut {T : Type 0} (i : ℕ) (rows : List (MRow T)) (pieces : List MCtor) (spans : List Span)
    (todo : List Part) : Type 0 where
  pub gone : List MCtor
  pub forward : List (ℕ × ℕ)
  pub each : AreLeafSpans (pieces ++ gone) (column_leaves i rows) forward
  pub mirror : plain_spans spans ≡ map (mirrored (length (pieces ++ gone))) forward
  pub left : pieces_left todo ≡ columns_from (length gone) (length pieces)
  pub parts : All (IsCutPart i rows spans) todo
