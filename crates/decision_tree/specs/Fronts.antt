-- Rows of which no other than the first is looked at (our own choice).
use Rattle.std.specs.Prelude.{◌≡◌, ◌⊎◌, false, List, [], ◌∷◌, IsTrue}
use Rattle.match_model.specs.DecisionTrees.{all_wild}
use Rattle.match_model.specs.Matrices.{MRow}

-- there is one row, and it is taken
pub record IsTaken {T : Type 0} (rows : List (MRow T)) : Type 0 where
  pub row : MRow T
  pub alone : rows ≡ row ∷ []
  pub wild : IsTrue (all_wild row)
  pub unguarded : row.guarded ≡ false

-- the first row of these is taken, and it stands for all of them
pub record IsFirstTaken {T : Type 0} (front rows : List (MRow T)) : Type 0 where
  pub taken : IsTaken front
  pub others : List (MRow T)
  pub first : rows ≡ taken.row ∷ others

-- these rows, or the first alone where it is taken
abbrev pub IsFront : {T : Type 0} → (front rows : List (MRow T)) → Type 0
IsFront front rows = (front ≡ rows) ⊎ IsFirstTaken front rows
