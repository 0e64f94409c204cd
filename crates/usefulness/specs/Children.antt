-- The rows of what is left of a submatrix when one of its columns is taken apart.
use Rattle.std.specs.Prelude.{ℕ, Bool, ◌&&◌, not, List, [], map, cond, slice_get}
use Rattle.std.specs.List.{flat_map}
use Rattle.std.specs.Option.{option_to_list}
use Rattle.match_model.specs.Rows.{is_wild, starts_wild}
use Rattle.pattern_matrix.specs.Sparse.{SparseLeaf, bare_row, leaf_row}
use Rattle.pattern_matrix.specs.Opening.{opened_row, dropped_row}
use Rattle.pattern_matrix.specs.Counting.{WantedRow}
use Rattle.pattern_matrix.specs.Searching.{Submatrix}
use Rattle.usefulness.specs.Frames.{SparseAsked}

-- the row without names
abbrev pub bare_wanted : {T : Type 0} → WantedRow T → WantedRow T
bare_wanted x = record { row = bare_row x.row; wanted = x.wanted }

-- the rows without names
abbrev pub bare_rows : {T : Type 0} → List (WantedRow T) → List (WantedRow T)
bare_rows xs = map bare_wanted xs

-- the submatrix without names
abbrev pub bare_sub : {T : Type 0} → Submatrix T → Submatrix T
bare_sub s = record { places = s.places; rows = bare_rows s.rows }

-- the row of a leaf, where there is one
abbrev pub row_at : {T : Type 0} → List (SparseAsked T) → SparseLeaf T → List (SparseAsked T)
row_at xs l = option_to_list (slice_get xs l.row)

-- the row of the leaf without its head at the column, where that is a wildcard; it is wanted where the leaf's row is
abbrev pub dropped_at : {T : Type 0} → (column : ℕ) → List (SparseAsked T) → SparseLeaf T → List (SparseAsked T)
dropped_at column xs l =
    cond (is_wild l.head) (map (λ x. record { row = dropped_row column l x.row; wanted = x.wanted }) (row_at xs l)) []

-- the rows of the leaves that are wildcards, without their heads at the column
abbrev pub dropped : {T : Type 0} → (column : ℕ) → List (SparseAsked T) → List (SparseLeaf T) → List (SparseAsked T)
dropped column xs leaves = flat_map (dropped_at column xs) leaves

-- the row of the leaf with the heads of the parts at new columns from the first on. Where a piece is missing a wildcard is
-- looked for there alone
abbrev pub opened_at : {T : Type 0} → (missing : Bool) → (column first count : ℕ) → List (SparseAsked T) → SparseLeaf T → List (SparseAsked T)
opened_at missing column first count xs l =
    map (λ x. record { row = opened_row column first count l x.row; wanted = x.wanted && not (missing && is_wild l.head) }) (row_at xs l)

-- the rows of the leaves, opened so
abbrev pub opened : {T : Type 0} → (missing : Bool) → (column first count : ℕ) → List (SparseAsked T) → List (SparseLeaf T) → List (SparseAsked T)
opened missing column first count xs leaves = flat_map (opened_at missing column first count xs) leaves

-- the rows of the leaves over these other columns, the leaves' column in front
abbrev pub leaf_wanted : {T : Type 0} → (others : List ℕ) → List (SparseAsked T) → SparseLeaf T → List (WantedRow T)
leaf_wanted others xs l = map (λ x. record { row = leaf_row others l x.row; wanted = x.wanted }) (row_at xs l)

-- the same for all leaves
abbrev pub leaves_wanted : {T : Type 0} → (others : List ℕ) → List (SparseAsked T) → List (SparseLeaf T) → List (WantedRow T)
leaves_wanted others xs leaves = flat_map (leaf_wanted others xs) leaves

-- where a piece is missing, the rows that are wild at the first place are wanted no more
abbrev pub settled_if : {T : Type 0} → (missing : Bool) → List (WantedRow T) → List (WantedRow T)
settled_if missing xs = map (λ x. record { row = x.row; wanted = x.wanted && not (missing && starts_wild x.row.heads) }) xs
