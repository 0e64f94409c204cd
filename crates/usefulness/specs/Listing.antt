-- Rows that are listed one after the other, while more is marked.
use Rattle.std.specs.Prelude.{◌≡◌, ◌⊎◌, ℕ, Bool, true, false, List, [], ◌∷◌, ◌++◌, length}
use Rattle.match_model.specs.Values.{MValue}
use Rattle.pattern_matrix.specs.Counting.{Question, counts}
use Rattle.pattern_matrix.specs.Searching.{Submatrix, IsDone, StandFor, DoFor, Comes, SomeComes, AreListed}
use Rattle.usefulness.specs.Frames.{SparseAsked, asked_view, asked_views}

-- the row, wanted so
abbrev pub as_wanted : {T : Type 0} → Bool → SparseAsked T → SparseAsked T
as_wanted w x = record { row = x.row; wanted = w }

-- it may be: it is wanted no more only where nothing new is wanted of it
abbrev pub IsWantedAs : {T : Type 0} → (is_marked : Question → Bool) → (columns : List ℕ) → SparseAsked T → Bool → Type 0
IsWantedAs is_marked columns x w = (w ≡ true → x.wanted ≡ true) × (w ≡ false → IsDone is_marked (asked_view columns x))

-- rows over these columns were gone through, and those that are kept do for them, or, once nothing behind them counts, stand
-- for them and all that may stand behind. More is marked than was, and what is new counts for all values
pub record IsListing {T : Type 0} (old now : Question → Bool) (columns : List ℕ) (through kept : List (SparseAsked T)) (closed : Bool) : Type 0 where
  pub grow : (q : Question) → old q ≡ true → now q ≡ true
  pub right : (q : Question) → now q ≡ true → (old q ≡ true)
      ⊎ ((rest : List (SparseAsked T)) (vs : List MValue) → length vs ≡ length columns → counts q (asked_views columns (through ++ rest)) vs ≡ true)
  pub does : closed ≡ false → DoFor now (length columns) (asked_views columns through) (asked_views columns kept)
  pub stands : closed ≡ true → (rest : List (SparseAsked T)) → StandFor now (length columns) (asked_views columns (through ++ rest)) (asked_views columns kept)

-- a submatrix that is left was listed: what stands for it is new, or nothing is left of it
pub record IsListedAs {T : Type 0} (IsValue : T → Bool → MValue → Type 0) (old now : Question → Bool) (left : Submatrix T) (new : List (Submatrix T)) : Type 0 where
  pub grow : (q : Question) → old q ≡ true → now q ≡ true
  pub right : (q : Question) → now q ≡ true → (old q ≡ true) ⊎ Comes IsValue q left
  pub listed : AreListed now (left ∷ []) new

-- and so were all that are left
pub record AreAllListed {T : Type 0} (IsValue : T → Bool → MValue → Type 0) (old now : Question → Bool) (left new : List (Submatrix T)) : Type 0 where
  pub grow : (q : Question) → old q ≡ true → now q ≡ true
  pub right : (q : Question) → now q ≡ true → (old q ≡ true) ⊎ SomeComes IsValue q left
  pub listed : AreListed now left new
