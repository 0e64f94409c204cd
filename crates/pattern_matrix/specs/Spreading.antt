-- A pattern of a row taken apart.
use Rattle.std.specs.Prelude.{ℕ, suc, Bool, List, [], ◌∷◌, ◌++◌, map, cond, Some, None}
use Rattle.std.specs.List.{flat_map}
use Rattle.match_model.specs.ArenaPatterns.{MDePat, uid_of}
use Rattle.match_model.specs.Rows.{Head as MHead, Choice, choices_of}
use Rattle.pattern_matrix.specs.Sparse.{SparseRow, SparseLeaf, bare_head, head_at}

-- the leaf of a choice, where these alternatives were chosen before
abbrev pub leaf_of : {T : Type 0} → (row : ℕ) → (chosen : List ℕ) → Choice T → SparseLeaf T
leaf_of row chosen c = record { row = row; head = bare_head (Some c.pat); chosen = chosen ++ c.chosen }

-- a leaf for each choice of the pattern
abbrev pub spread : {T : Type 0} → (row : ℕ) → (chosen : List ℕ) → MDePat T → List (SparseLeaf T)
spread row chosen p = map (leaf_of row chosen) (choices_of p)

-- the leaves of these alternatives, each chosen where they are several
abbrev pub spread_each : {T : Type 0} → (row : ℕ) → (chosen : List ℕ) → (several : Bool) → List (MDePat T) → List (SparseLeaf T)
spread_each row chosen several ps = flat_map (λ q. spread row (chosen ++ cond several (uid_of q ∷ []) []) q) ps

-- the leaves of a row with this number, which has this head
abbrev pub apart : {T : Type 0} → (row : ℕ) → MHead T → List (SparseLeaf T)
apart row None = record { row = row; head = None; chosen = [] } ∷ []
apart row (Some p) = spread row [] p

-- the leaves of the rows at the column, the rows being numbered from a number on
abbrev pub all_apart : {T : Type 0} → (column row : ℕ) → List (SparseRow T) → List (SparseLeaf T)
all_apart column row [] = []
all_apart column row (r ∷ rows) = apart row (head_at r.heads column) ++ all_apart column (suc row) rows
