-- The rows of arms.
use Rattle.std.specs.Prelude.{ℕ, suc, List, [], ◌∷◌, cond, Some}
use Rattle.match_model.specs.ArenaPatterns.{MDeArm}
use Rattle.match_model.specs.Rows.{is_wild}
use Rattle.pattern_matrix.specs.Sparse.{SparseRow}

-- the row of an arm with this number
abbrev pub starting_row : {T : Type 0} → (number : ℕ) → MDeArm T → SparseRow T
starting_row number a = record { heads = cond (is_wild (Some a.pat)) [] ((0, a.pat) ∷ []); arm = number; guarded = a.guarded; chosen = [] }

-- the rows of the arms, which are numbered from a number on
abbrev pub starting_rows : {T : Type 0} → (number : ℕ) → List (MDeArm T) → List (SparseRow T)
starting_rows number [] = []
starting_rows number (a ∷ arms) = starting_row number a ∷ starting_rows (suc number) arms
