-- The rows that the search begins with.
use Rattle.std.specs.Prelude.{ℕ, Bool, false, List, [], ◌∷◌, cond, Some}
use Rattle.std.specs.List.{flat_map}
use Rattle.match_model.specs.ArenaPatterns.{MDePat, MDeArm}
use Rattle.match_model.specs.Match.{is_empty_list}
use Rattle.match_model.specs.Rows.{is_wild}
use Rattle.pattern_matrix.specs.Sparse.{SparseRow}

-- the row lists no head
abbrev pub lists_none : {T : Type 0} → SparseRow T → Bool
lists_none r = is_empty_list r.heads

-- the pattern at the column 0, unless it is a wildcard
abbrev pub starting_heads : {T : Type 0} → MDePat T → List (ℕ × MDePat T)
starting_heads p = cond (is_wild (Some p)) [] ((0, p) ∷ [])

-- the row of an arm without a guard
abbrev pub starting_row : {T : Type 0} → MDeArm T → List (SparseRow T)
starting_row a = cond a.guarded [] (record { heads = starting_heads a.pat; arm = 0; guarded = false; chosen = [] } ∷ [])

-- the rows of the arms without a guard
abbrev pub starting_rows : {T : Type 0} → List (MDeArm T) → List (SparseRow T)
starting_rows arms = flat_map starting_row arms
