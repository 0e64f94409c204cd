-- Rows that list only their heads that are no wildcards, and the rows of the definitions that they stand for.
use Rattle.std.specs.Prelude.{◌≡◌, ◌≢◌, ℕ, zero, suc, ◌<◌, true, false, Bool, not, cond, nat_eq, List, [], ◌∷◌, ◌++◌, map, filter, length, Some, None, slice_get}
use Rattle.std.specs.List.{All, Contains, flat_map}
use Rattle.std.specs.Option.{option_to_list}
use Rattle.match_model.specs.Constructors.{MCtor, has_piece}
use Rattle.match_model.specs.ArenaPatterns.{MDePat, de_pat, de_pats_list}
use Rattle.match_model.specs.Rows.{Head as MHead, is_wild, wildcards, heads_of}
use Rattle.match_model.specs.Matrices.{MRow}

-- a row that lists some of its heads, each with the number of its column
pub record SparseRow (T : Type 0) : Type 0 where
  pub heads : List (ℕ × MDePat T)
  pub arm : ℕ
  pub guarded : Bool
  pub chosen : List ℕ

-- what stands at one column in a row, by the number of the row: a head without alternatives, and those that were chosen
-- on the way to it
pub record SparseLeaf (T : Type 0) : Type 0 where
  pub row : ℕ
  pub head : MHead T
  pub chosen : List ℕ

-- the head without the names that a wildcard binds
abbrev pub bare_head : {T : Type 0} → MHead T → MHead T
bare_head h = cond (is_wild h) None h

-- the row without the names that it has caught and that its wildcards bind
abbrev pub bare_row : {T : Type 0} → MRow T → MRow T
bare_row r = record r { heads = map bare_head r.heads; caught = [] }

-- the head at a column: a wildcard where none is listed
abbrev pub head_at : {T : Type 0} → List (ℕ × MDePat T) → (column : ℕ) → MHead T
head_at [] column = None
head_at (h ∷ heads) column = cond (nat_eq h.0 column) (bare_head (Some h.1)) (head_at heads column)

-- the heads at these columns
abbrev pub heads_at : {T : Type 0} → List (ℕ × MDePat T) → (columns : List ℕ) → List (MHead T)
heads_at heads columns = map (head_at heads) columns

-- the row of the definitions over these columns
abbrev pub row_view : {T : Type 0} → (columns : List ℕ) → SparseRow T → MRow T
row_view columns r = record { heads = heads_at r.heads columns; arm = r.arm; guarded = r.guarded; chosen = r.chosen; caught = [] }

-- the rows over these columns
abbrev pub row_views : {T : Type 0} → (columns : List ℕ) → List (SparseRow T) → List (MRow T)
row_views columns rows = map (row_view columns) rows

-- the row of the definitions, the leaf's column in front of the others
abbrev pub leaf_row : {T : Type 0} → (others : List ℕ) → SparseLeaf T → SparseRow T → MRow T
leaf_row others l r = record {
  heads = bare_head l.head ∷ heads_at r.heads others;
  arm = r.arm;
  guarded = r.guarded;
  chosen = r.chosen ++ l.chosen;
  caught = [];
}

-- the same, where there is a row with the leaf's number
abbrev pub leaf_view : {T : Type 0} → (others : List ℕ) → List (SparseRow T) → SparseLeaf T → List (MRow T)
leaf_view others rows l = map (leaf_row others l) (option_to_list (slice_get rows l.row))

-- the rows of the leaves, the leaves' column in front of the others
abbrev pub leaf_views : {T : Type 0} → (others : List ℕ) → List (SparseRow T) → List (SparseLeaf T) → List (MRow T)
leaf_views others rows leaves = flat_map (leaf_view others rows) leaves

-- the columns from a number on, so many of them
abbrev pub columns_from : (first : ℕ) → (count : ℕ) → List ℕ
columns_from first zero = []
columns_from first (suc count) = first ∷ columns_from (suc first) count

-- the heads of a row that are no wildcards, its columns being numbered from a number on
abbrev pub listed : {T : Type 0} → (first : ℕ) → List (MHead T) → List (ℕ × MDePat T)
listed first [] = []
listed first (None ∷ heads) = listed (suc first) heads
listed first (Some p ∷ heads) = cond (is_wild (Some p)) [] ((first, p) ∷ []) ++ listed (suc first) heads

-- the listed heads but those of the column
abbrev pub without : {T : Type 0} → (column : ℕ) → List (ℕ × MDePat T) → List (ℕ × MDePat T)
without column heads = filter (λ h. not (nat_eq h.0 column)) heads

-- the listed heads stand at columns below a number
abbrev pub AreHeadsBelow : {T : Type 0} → ℕ → List (ℕ × MDePat T) → Type 0
AreHeadsBelow n heads = All (λ h. h.0 < n) heads

-- the heads of the rows stand at columns below a number
abbrev pub AreBelow : {T : Type 0} → ℕ → List (SparseRow T) → Type 0
AreBelow n rows = All (λ r. AreHeadsBelow n r.heads) rows

-- the listed heads are no wildcards, and stand at these columns
abbrev pub AreHeadsOver : {T : Type 0} → (columns : List ℕ) → List (ℕ × MDePat T) → Type 0
AreHeadsOver columns heads = All (λ h. Contains columns h.0 × (is_wild (Some h.1) ≡ false)) heads

-- the rows list only heads that are no wildcards, at these columns
abbrev pub AreOver : {T : Type 0} → (columns : List ℕ) → List (SparseRow T) → Type 0
AreOver columns rows = All (λ r. AreHeadsOver columns r.heads) rows

-- the heads of so many parts that a head writes, where it has the piece that they are of
abbrev pub leaf_parts : {T : Type 0} → (count : ℕ) → MHead T → List (MHead T)
leaf_parts count None = wildcards count
leaf_parts count (Some (de_pat c t uid at subs binds)) = heads_of c (map Some (de_pats_list subs)) count

-- the head has all of the piece
abbrev pub head_has : {T : Type 0} → (piece : MCtor) → MHead T → Bool
head_has piece None = true
head_has piece (Some (de_pat c t uid at subs binds)) = has_piece c piece

-- the leaves with these numbers, where there are any
abbrev pub leaves_listed : {T : Type 0} → List (SparseLeaf T) → (numbers : List ℕ) → List (SparseLeaf T)
leaves_listed leaves numbers = flat_map (λ k. option_to_list (slice_get leaves k)) numbers

-- the leaf's head has all of the piece, and writes so many parts
pub record IsLeafOf {T : Type 0} (piece : MCtor) (count : ℕ) (l : SparseLeaf T) : Type 0 where
  pub has : head_has piece l.head ≡ true
  pub parts : length (leaf_parts count l.head) ≡ count

-- the columns are below a number, and none of them is this one
abbrev pub AreOthers : (column first : ℕ) → List ℕ → Type 0
AreOthers column first others = All (λ c. (c < first) × (c ≢ column)) others

-- none of the columns is this one
abbrev pub Lacks : (column : ℕ) → List ℕ → Type 0
Lacks column others = All (λ c. c ≢ column) others

-- the leaf with the number, where there is one, writes so many parts
abbrev pub AreParts : {T : Type 0} → (count : ℕ) → List (SparseLeaf T) → (number : ℕ) → Type 0
AreParts {T} count leaves k = (l : SparseLeaf T) → slice_get leaves k ≡ Some l → length (leaf_parts count l.head) ≡ count
