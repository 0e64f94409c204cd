-- Rows that are parted: what two rows of an arm have left to decide is alike, or comes behind the or-pattern that they decided
-- differently.
use Rattle.std.specs.Prelude.{◌≡◌, ◌<◌, ⊤, ◌⊎◌, ℕ, List, [], ◌∷◌}
use Rattle.match_model.specs.Rows.{Head}
use Rattle.match_model.specs.Matrices.{MRow}
use Rattle.match_model.specs.Keys.{Decision, Key, IsBefore}
use Rattle.match_model.specs.RowOrder.{row_key}
use Rattle.keyed_rows.specs.Dividing.{IsAbove}

-- two rows' heads, where the first or-pattern that they decided differently has the number `d`: at each column the same
-- head, or heads whose or-patterns come later
abbrev pub AreAlike : {T : Type 0} → (decides : ℕ → Decision) → ℕ → List (Head T) → List (Head T) → Type 0
AreAlike decides d [] [] = ⊤
AreAlike decides d [] (h ∷ hs) = ⊥
AreAlike decides d (h ∷ hs) [] = ⊥
AreAlike decides d (h ∷ hs) (g ∷ gs) = ((h ≡ g) ⊎ (IsAbove decides d h × IsAbove decides d g))
    × AreAlike decides d hs gs

-- the first or-pattern that two rows of an arm decided differently; what comes before it is the same in both
pub record IsParted {T : Type 0} (decides : ℕ → Decision) (k : Key) (hs : List (Head T)) (l : Key)
    (gs : List (Head T)) : Type 0 where
  pub before : IsBefore k l
  pub alike : AreAlike decides before.at hs gs

-- the same, and what comes before that or-pattern is alike in both
abbrev pub RowParted : {T : Type 0} → (decides : ℕ → Decision) → MRow T → MRow T → Type 0
RowParted decides r s = (r.arm < s.arm) ⊎ ((r.arm ≡ s.arm)
    × IsParted decides (row_key decides r) r.heads (row_key decides s) s.heads)
