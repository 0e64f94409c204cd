-- What rows have chosen and what is not marked.
use Rattle.std.specs.Prelude.{ℕ, suc, Bool, cond, List, [], ◌∷◌, ◌++◌}
use Rattle.std.specs.List.{flat_map}
use Rattle.pattern_matrix.specs.Counting.{Question, through_alternative}
use Rattle.usefulness.specs.declared.chosen.ChosenIn.{ChosenIn}
use Rattle.usefulness.specs.Frames.{SparseAsked}

-- the alternative of the arm, chosen by the row with this number, where it is not marked
abbrev pub unmarked_one : (is_marked : Question → Bool) → (number arm id : ℕ) → List ChosenIn
unmarked_one is_marked number arm id = cond (is_marked (through_alternative arm id)) [] (record { row = number; uid = id } ∷ [])

-- what the row with this number has chosen and what is not marked, where the row is wanted
abbrev pub unmarked_in : {T : Type 0} → (is_marked : Question → Bool) → (number : ℕ) → SparseAsked T → List ChosenIn
unmarked_in is_marked number x = cond x.wanted (flat_map (unmarked_one is_marked number x.row.arm) x.row.chosen) []

-- the same of all rows, the first of which has this number
abbrev pub unmarked_from : {T : Type 0} → (is_marked : Question → Bool) → (first : ℕ) → List (SparseAsked T) → List ChosenIn
unmarked_from is_marked first [] = []
unmarked_from is_marked first (x ∷ xs) = unmarked_in is_marked first x ++ unmarked_from is_marked (suc first) xs
