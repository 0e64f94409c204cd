-- The rows that a search begins with.
use Rattle.std.specs.Prelude.{ℕ, true, false, List, [], ◌∷◌, ◌++◌, map, length}
use Rattle.match_model.specs.ArenaPatterns.{MDeArm}
use Rattle.pattern_matrix.specs.Sparse.{SparseRow}
use Rattle.pattern_matrix.specs.Starting.{starting_rows}
use Rattle.usefulness.specs.Frames.{SparseAsked}

-- rows that are all wanted
abbrev pub wanted_all : {T : Type 0} → List (SparseRow T) → List (SparseAsked T)
wanted_all rows = map (λ r. record { row = r; wanted = true }) rows

-- the row behind so many arms
abbrev pub behind_row : {T : Type 0} → (arm : ℕ) → SparseRow T
behind_row arm = record { heads = []; arm = arm; guarded = false; chosen = [] }

-- the rows of the arms, and the one behind them
abbrev pub asked_from : {T : Type 0} → List (MDeArm T) → List (SparseAsked T)
asked_from arms = wanted_all (starting_rows 0 arms ++ behind_row (length arms) ∷ [])
