-- Rows that are taken whatever piece of a column is entered, and that bind nothing in what is open then (our own choice).
use Rattle.std.specs.Prelude.{◌≡◌, ℕ, Bool, true, false, List, [], ◌∷◌, ◌++◌, Option, Some, None, slice_get}
use Rattle.match_model.specs.Constructors.{MCtor}
use Rattle.match_model.specs.Matrices.{MRow}
use Rattle.match_model.specs.Places.{MStep}
use Rattle.match_model.specs.Rows.{Head}
use Rattle.match_model.specs.Steps.{specialise_head, rows_at}
use Rattle.pattern_matrix.specs.Sparse.{head_has}
use Rattle.decision_tree.specs.Cutting.{head_there, takes_by}
use Rattle.decision_tree.specs.Thin.{is_blank}

-- the head is a wildcard that binds nothing, whether a pattern wrote it or none did
abbrev pub is_idle : {T : Type 0} → Head T → Bool
is_idle None = true
is_idle (Some p) = is_blank p

-- there is a row, and whatever piece of the column is entered that it has, it is taken, and none of its heads binds anything
abbrev pub takes_idly : {T : Type 0} → (i : ℕ) → Option (MRow T) → Bool
takes_idly i None = false
takes_idly i (Some r) = takes_by is_idle i r

-- the one number is that of such a row
abbrev pub is_idle_alone : {T : Type 0} → (i : ℕ) → List (MRow T) → (numbers : List ℕ) → Bool
is_idle_alone i rows (k ∷ []) = takes_idly i (slice_get rows k)
is_idle_alone i rows _ = false

-- of the rows that have the piece of column `i` that with the number is the first, and it is such a row
pub record IsIdleFirst {T : Type 0} (i : ℕ) (rows : List (MRow T)) (piece : MCtor) (number : ℕ) : Type 0 where
  pub row : MRow T
  pub got : slice_get rows number ≡ Some row
  pub takes : takes_by is_idle i row ≡ true
  pub has : head_has piece (head_there i row.heads) ≡ true
  pub first : (n : ℕ) (place : List MStep) → (others : List (MRow T))
      × (rows_at (specialise_head piece n) place i rows
      ≡ rows_at (specialise_head piece n) place i (row ∷ []) ++ others)
