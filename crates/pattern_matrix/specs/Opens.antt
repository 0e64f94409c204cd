-- Open columns and their places, by numbers.
use Rattle.std.specs.Prelude.{◌≡◌, ⊤, ◌<◌, ◌+◌, ℕ, Bool, List, [], ◌∷◌, ◌++◌, length, Some, slice_get}
use Rattle.std.specs.List.{All, Contains, flat_map}
use Rattle.std.specs.Option.{option_to_list}
use Rattle.match_model.specs.Contexts.{Open}
use Rattle.pattern_matrix.specs.Searching.{moved, moved_first}
use Rattle.pattern_matrix.specs.Sparse.{SparseRow, columns_from, AreBelow, AreOver, AreOthers, Lacks}
use Rattle.pattern_matrix.specs.Wanted.{wanted_views}

-- the places of these columns, where all that were opened have these
abbrev pub places_at : {T : Type 0} → (opens : List (Open T)) → (columns : List ℕ) → List (Open T)
places_at opens columns = flat_map (λ c. option_to_list (slice_get opens c)) columns

-- no column stands twice
abbrev pub AreDistinct : (columns : List ℕ) → Type 0
AreDistinct [] = ⊤
AreDistinct (c ∷ columns) = Lacks c columns × AreDistinct columns

-- columns of so many that were opened, none twice
pub record AreOpen (end : ℕ) (columns : List ℕ) : Type 0 where
  pub below : All (λ c. c < end) columns
  pub distinct : AreDistinct columns

-- columns that are open, as the steps leave them
pub record ColumnsStayOpen (T : Type 0) : Type 0 where
  -- any of them may stand first
  pub first : (end : ℕ) (columns : List ℕ) (column : ℕ) → AreOpen end columns → Contains columns column →
      (i : ℕ) × (others : List ℕ) × (moved i columns ≡ column ∷ others) × AreOpen end others × AreOthers column end others
  -- those of a piece's parts stand before the others
  pub parts : (end count : ℕ) (others : List ℕ) → AreOpen end others → AreOpen (end + count) (columns_from end count ++ others)
  -- heads at open columns stand below the end, whichever column stands first
  pub below : (end : ℕ) (columns : List ℕ) (rows : List (SparseRow T)) → AreOpen end columns → AreOver columns rows → AreBelow end rows
  pub over : (i : ℕ) (columns : List ℕ) (rows : List (SparseRow T)) → AreOver columns rows → AreOver (moved i columns) rows
  -- a submatrix with another place first has the rows over another column first
  pub rows : (i : ℕ) (columns : List ℕ) (places : List (Open T)) (wanted : List Bool) (rows : List (SparseRow T)) →
      moved_first i (record { places = places; rows = wanted_views columns wanted rows })
      ≡ record { places = moved i places; rows = wanted_views (moved i columns) wanted rows }
  pub places : (i : ℕ) (opens : List (Open T)) (columns : List ℕ) → All (λ c. c < length opens) columns →
      places_at opens (moved i columns) ≡ moved i (places_at opens columns)
  -- the places of a column and of others, and those of parts and of others
  pub place : (opens : List (Open T)) (column : ℕ) (others : List ℕ) (o : Open T) → slice_get opens column ≡ Some o →
      places_at opens (column ∷ others) ≡ o ∷ places_at opens others
  pub part_places : (opens parts : List (Open T)) (others : List ℕ) → All (λ c. c < length opens) others →
      places_at (opens ++ parts) (columns_from (length opens) (length parts) ++ others) ≡ parts ++ places_at opens others
  pub long : (opens : List (Open T)) (columns : List ℕ) → All (λ c. c < length opens) columns → length (places_at opens columns) ≡ length columns
