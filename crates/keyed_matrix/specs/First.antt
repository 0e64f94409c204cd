-- The first row of an arm.
use Rattle.std.specs.Prelude.{ℕ, [], ◌∷◌, Some}
use Rattle.match_model.specs.ArenaPatterns.{MDeArm}
use Rattle.match_model.specs.Matrices.{MRow}

-- the row of the arm with the number: its pattern is the only head
abbrev pub first_row : {T : Type 0} → (arm : ℕ) → MDeArm T → MRow T
first_row j a = record { heads = Some a.pat ∷ []; arm = j; guarded = a.guarded; chosen = []; caught = [] }
