-- Rows of which some are wanted, as a search for what is reached looks at them.
use Rattle.std.specs.Prelude.{ℕ, Bool, false, not, ◌&&◌, List, [], ◌∷◌, map, slice_get, slice_index_or}
use Rattle.std.specs.List.{flat_map}
use Rattle.std.specs.Option.{option_to_list}
use Rattle.match_model.specs.Rows.{is_wild}
use Rattle.match_model.specs.Matrices.{MRow}
use Rattle.pattern_matrix.specs.Counting.{WantedRow}
use Rattle.pattern_matrix.specs.Searching.{Submatrix}
use Rattle.pattern_matrix.specs.Sparse.{SparseRow, SparseLeaf, bare_row, row_view, leaf_row}
use Rattle.pattern_matrix.specs.Opening.{opened_row, dropped_row}

-- the rows over these columns, each with whether it is wanted
abbrev pub wanted_views : {T : Type 0} → (columns : List ℕ) → (wanted : List Bool) → List (SparseRow T) → List (WantedRow T)
wanted_views columns wanted [] = []
wanted_views columns [] (r ∷ rows) = []
wanted_views columns (w ∷ wanted) (r ∷ rows) = record { row = row_view columns r; wanted = w } ∷ wanted_views columns wanted rows

-- the row without the names that it has caught and that its wildcards bind
abbrev pub bare_wanted : {T : Type 0} → WantedRow T → WantedRow T
bare_wanted x = record { row = bare_row x.row; wanted = x.wanted }

-- the submatrix with its rows made so
abbrev pub bare_submatrix : {T : Type 0} → Submatrix T → Submatrix T
bare_submatrix s = record { places = s.places; rows = map bare_wanted s.rows }

-- whether the leaf is wanted: where its row is, and not where wildcards are looked for elsewhere and it is one
abbrev pub is_leaf_wanted : {T : Type 0} → (wanted : List Bool) → (elsewhere : Bool) → SparseLeaf T → Bool
is_leaf_wanted wanted elsewhere l = slice_index_or wanted l.row false && not (elsewhere && is_wild l.head)

-- what becomes of the leaf's row, where there is one, each with whether it is wanted
abbrev pub of_leaf : {T : Type 0} → (wanted : List Bool) → (elsewhere : Bool) → List (SparseRow T) → (SparseLeaf T → SparseRow T → MRow T) → SparseLeaf T →
    List (WantedRow T)
of_leaf wanted elsewhere rows f l = map (λ r. record { row = f l r; wanted = is_leaf_wanted wanted elsewhere l }) (option_to_list (slice_get rows l.row))

-- the rows of the leaves, the leaves' column in front of the others
abbrev pub wanted_leaves : {T : Type 0} → (others : List ℕ) → (wanted : List Bool) → (elsewhere : Bool) → List (SparseRow T) → List (SparseLeaf T) →
    List (WantedRow T)
wanted_leaves others wanted elsewhere rows leaves = flat_map (of_leaf wanted elsewhere rows (leaf_row others)) leaves

-- the rows of the leaves over these columns, the heads of so many parts being in place of that at the column
abbrev pub wanted_opened : {T : Type 0} → (columns : List ℕ) → (column first count : ℕ) → (wanted : List Bool) → (elsewhere : Bool) → List (SparseRow T) →
    List (SparseLeaf T) → List (WantedRow T)
wanted_opened columns column first count wanted elsewhere rows leaves =
    flat_map (of_leaf wanted elsewhere rows (λ l r. row_view columns (opened_row column first count l r))) leaves

-- the rows of the leaves over these columns, without that at the column
abbrev pub wanted_dropped : {T : Type 0} → (columns : List ℕ) → (column : ℕ) → (wanted : List Bool) → List (SparseRow T) → List (SparseLeaf T) →
    List (WantedRow T)
wanted_dropped columns column wanted rows leaves = flat_map (of_leaf wanted false rows (λ l r. row_view columns (dropped_row column l r))) leaves
