-- What becomes of a row when a piece of a column is entered, or the column is dropped.
use Rattle.std.specs.Prelude.{ℕ, List, [], ◌++◌, map, cond, slice_get, Some}
use Rattle.std.specs.List.{flat_map}
use Rattle.std.specs.Option.{option_to_list}
use Rattle.match_model.specs.Constructors.{MCtor}
use Rattle.match_model.specs.Rows.{Head as MHead, heads_of, is_wild}
use Rattle.pattern_arena.specs.declared.pattern.DePat.{DePat}
use Rattle.pattern_arena.specs.Trees.{tree}
use Rattle.pattern_matrix.specs.Sparse.{SparseRow, SparseLeaf, listed, without, leaf_parts}

-- the row with the heads of the parts, whose columns have numbers from the first on, and the row's other heads
abbrev pub opened_row : {T : Type 0} → (column first count : ℕ) → SparseLeaf T → SparseRow T → SparseRow T
opened_row column first count l r = record {
  heads = listed first (leaf_parts count l.head) ++ without column r.heads;
  arm = r.arm;
  guarded = r.guarded;
  chosen = r.chosen ++ l.chosen;
}

-- the row of the leaf, opened so
abbrev pub opened_leaf : {T : Type 0} → (column first count : ℕ) → List (SparseRow T) → SparseLeaf T → List (SparseRow T)
opened_leaf column first count rows l = map (opened_row column first count l) (option_to_list (slice_get rows l.row))

-- the rows of the leaves, opened so
abbrev pub opened_rows : {T : Type 0} → (column first count : ℕ) → List (SparseRow T) → List (SparseLeaf T) → List (SparseRow T)
opened_rows column first count rows leaves = flat_map (opened_leaf column first count rows) leaves

-- the heads of the parts that a pattern of the constructor writes, of these patterns
abbrev pub pattern_parts : {T : Type 0} → (count : ℕ) → MCtor → List (DePat T) → List (MHead T)
pattern_parts count c subs = heads_of c (map (λ p. Some (tree p)) subs) count

-- the row without its head at the column
abbrev pub dropped_row : {T : Type 0} → (column : ℕ) → SparseLeaf T → SparseRow T → SparseRow T
dropped_row column l r = record { heads = without column r.heads; arm = r.arm; guarded = r.guarded; chosen = r.chosen ++ l.chosen }

-- the row of the leaf without its head at the column, where that is a wildcard
abbrev pub dropped_leaf : {T : Type 0} → (column : ℕ) → List (SparseRow T) → SparseLeaf T → List (SparseRow T)
dropped_leaf column rows l = cond (is_wild l.head) (map (dropped_row column l) (option_to_list (slice_get rows l.row))) []

-- the rows of the leaves that are wildcards, without their heads at the column
abbrev pub dropped_rows : {T : Type 0} → (column : ℕ) → List (SparseRow T) → List (SparseLeaf T) → List (SparseRow T)
dropped_rows column rows leaves = flat_map (dropped_leaf column rows) leaves
