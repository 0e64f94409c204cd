-- What is still to be looked at: rows over open columns, and the submatrices that they stand for.
use Rattle.std.specs.Prelude.{⊤, ◌≡◌, ◌<◌, ℕ, Bool, false, true, List, [], ◌∷◌, map, Some}
use Rattle.std.specs.List.{All, Contains}
use Rattle.match_model.specs.Contexts.{Open}
use Rattle.match_model.specs.ArenaPatterns.{MDePat}
use Rattle.match_model.specs.Rows.{is_wild}
use Rattle.pattern_matrix.specs.Sparse.{SparseRow, row_view, AreOthers}
use Rattle.pattern_matrix.specs.Counting.{WantedRow}
use Rattle.pattern_matrix.specs.Searching.{Submatrix}
use Rattle.usefulness.specs.Scope.{Scope, patterns_of}

-- a row, and whether something new is looked for in it
pub record SparseAsked (T : Type 0) : Type 0 where
  pub row : SparseRow T
  pub wanted : Bool

-- the row over these columns
abbrev pub asked_view : {T : Type 0} → (columns : List ℕ) → SparseAsked T → WantedRow T
asked_view columns x = record { row = row_view columns x.row; wanted = x.wanted }

-- the rows over these columns
abbrev pub asked_views : {T : Type 0} → (columns : List ℕ) → List (SparseAsked T) → List (WantedRow T)
asked_views columns xs = map (asked_view columns) xs

-- the rows alone
abbrev pub rows_of : {T : Type 0} → List (SparseAsked T) → List (SparseRow T)
rows_of xs = map (λ x. x.row) xs

-- the numbers of open columns, each of which stands with its place
abbrev pub numbers : {T : Type 0} → List (ℕ × Open T) → List ℕ
numbers shown = map (λ o. o.0) shown

-- their places
abbrev pub places : {T : Type 0} → List (ℕ × Open T) → List (Open T)
places shown = map (λ o. o.1) shown

-- the submatrix of rows over open columns
abbrev pub sub_view : {T : Type 0} → List (ℕ × Open T) → List (SparseAsked T) → Submatrix T
sub_view shown xs = record { places = places shown; rows = asked_views (numbers shown) xs }

-- the head is no wildcard, stands at one of these columns, and is of the patterns
pub record IsHeadIn {T : Type 0} (scope : Scope T) (columns : List ℕ) (h : ℕ × MDePat T) : Type 0 where
  pub column : Contains columns h.0
  pub sharp : is_wild (Some h.1) ≡ false
  pub known : Contains (patterns_of scope.written) h.1

-- all heads of the row are so, and its arm is one of those
pub record IsRowIn {T : Type 0} (scope : Scope T) (columns : List ℕ) (x : SparseAsked T) : Type 0 where
  pub arm : x.row.arm < scope.arms
  pub heads : All (IsHeadIn scope columns) x.row.heads

-- some head is listed
abbrev pub has_heads : {T : Type 0} → List (ℕ × MDePat T) → Bool
has_heads [] = false
has_heads (h ∷ heads) = true

-- the first row, where there is one, lists a head
abbrev pub starts_listed : {T : Type 0} → List (SparseAsked T) → Bool
starts_listed [] = true
starts_listed (x ∷ xs) = has_heads x.row.heads

-- there is a first row, and it lists a head
abbrev pub has_start : {T : Type 0} → List (SparseAsked T) → Bool
has_start [] = false
has_start (x ∷ xs) = has_heads x.row.heads

-- no number stands twice, and all are below the next one
abbrev pub AreOpen : (next : ℕ) → List ℕ → Type 0
AreOpen next [] = ⊤
AreOpen next (c ∷ columns) = (c < next) × AreOthers c next columns × AreOpen next columns

-- columns are open whose numbers differ and are below the next one, the rows are of these arms and list heads at these
-- columns that are no wildcards, and the first row has one
pub record IsFrame {T : Type 0} (scope : Scope T) (shown : List (ℕ × Open T)) (next : ℕ) (xs : List (SparseAsked T)) : Type 0 where
  pub columns : AreOpen next (numbers shown)
  pub heads : All (IsRowIn scope (numbers shown)) xs
  pub start : has_start xs ≡ true

-- the submatrix of the rows, where there are any
abbrev pub subs_of : {T : Type 0} → List (ℕ × Open T) → List (SparseAsked T) → List (Submatrix T)
subs_of shown [] = []
subs_of shown (x ∷ xs) = sub_view shown (x ∷ xs) ∷ []
