-- Laws of rows that list only their heads that are no wildcards.
use Rattle.std.specs.Prelude.{◌≡◌, ◌<◌, ℕ, List, map, length, filter, slice_index_or}
use Rattle.std.specs.List.{All}
use Rattle.match_model.specs.Values.{MValue}
use Rattle.match_model.specs.Constructors.{MCtor}
use Rattle.match_model.specs.Places.{MStep}
use Rattle.match_model.specs.Rows.{Head as MHead}
use Rattle.match_model.specs.Matrices.{MRow, head_ways, specialised_rows, column_ctors}
use Rattle.match_model.specs.Weights.{rows_weight}
use Rattle.pattern_matrix.specs.Sparse.{SparseRow, SparseLeaf, bare_head, bare_row, leaf_views, leaves_listed, head_has}
use Rattle.pattern_matrix.specs.Halving.{leaf_ctors, leaves_with, AreLeafSpans}

-- without the names that are caught and that wildcards bind heads have the ways that they have, but for what these bind,
-- and rows the weight
pub record BareRowsAreAlike (T : Type 0) : Type 0 where
  pub traces : (h : MHead T) (v : MValue) → map (λ w. w.trace) (head_ways (bare_head h) v) ≡ map (λ w. w.trace) (head_ways h v)
  pub weight : (rows : List (MRow T)) → rows_weight (map bare_row rows) ≡ rows_weight rows

-- the leaves that spans give a piece are those that have it, in order, and they give all rows that are specialised by it
pub record PieceHasItsLeaves (T : Type 0) : Type 0 where
  pub listed : (pieces : List MCtor) (i : ℕ) (d : MCtor) (leaves : List (SparseLeaf T)) (spans : List (ℕ × ℕ)) → i < length pieces →
      AreLeafSpans pieces leaves spans →
      leaves_listed leaves (leaves_with spans i) ≡ filter (λ l. head_has (slice_index_or pieces i d) l.head) leaves
  pub rows : (place : List MStep) (piece : MCtor) (n : ℕ) (others : List ℕ) (rows : List (SparseRow T)) (leaves : List (SparseLeaf T)) →
      specialised_rows place piece n (leaf_views others rows (filter (λ l. head_has piece l.head) leaves))
      ≡ specialised_rows place piece n (leaf_views others rows leaves)

-- the constructors of leaves are those of the column of the definitions
abbrev pub LeavesHaveTheColumn : (T : Type 0) → Type 0
LeavesHaveTheColumn T =
    (others : List ℕ) (rows : List (SparseRow T)) (leaves : List (SparseLeaf T)) → All (λ l. l.row < length rows) leaves →
    column_ctors (leaf_views others rows leaves) ≡ leaf_ctors leaves
