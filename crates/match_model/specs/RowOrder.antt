-- Rows in the order in which their arms and alternatives are tried (our own choice).
use Rattle.std.specs.Prelude.{◌≡◌, ◌<◌, ◌⊎◌, ℕ, List, map}
use Rattle.match_model.specs.Matrices.{MRow}
use Rattle.match_model.specs.Lists.{Ordered, SameMembers}
use Rattle.match_model.specs.Keys.{Decision, Key, key_of, IsBefore}

-- what was decided of the row's arm
abbrev pub row_key : {T : Type 0} → (decides : ℕ → Decision) → MRow T → Key
row_key decides r = key_of (map decides r.chosen)

-- the row comes first: its arm does, or in one arm what it decided
abbrev pub RowFirst : {T : Type 0} → (decides : ℕ → Decision) → MRow T → MRow T → Type 0
RowFirst decides r s = (r.arm < s.arm) ⊎ ((r.arm ≡ s.arm) × IsBefore (row_key decides r) (row_key decides s))

-- these rows, in order
pub record AreInOrder {T : Type 0} (decides : ℕ → Decision) (rows sorted : List (MRow T)) : Type 0 where
  pub same : SameMembers rows sorted
  pub ordered : Ordered (RowFirst decides) sorted
