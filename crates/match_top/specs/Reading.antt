-- What is taken of a file.
use Rattle.std.specs.Prelude.{◌≡◌, ◌+◌, ◌<◌, ◌≤◌, ℕ, List, [], ◌++◌, length, Option, Some}

-- At most so many of these bytes were taken, and the others are left.
pub record HasTaken (most : ℕ) (bytes : List ℕ) (left : Option (List ℕ)) : Type 0 where
  pub taken : List ℕ
  pub rest : List ℕ
  pub whole : bytes ≡ taken ++ rest
  pub few : length taken ≤ most
  pub remains : left ≡ Some rest

-- Of what was left, where it is told, at most so many bytes were taken.
abbrev pub TakesAtMost : ℕ → Option (List ℕ) → Option (List ℕ) → Type 0
TakesAtMost most left now = (bytes : List ℕ) → left ≡ Some bytes → HasTaken most bytes now

-- The next bytes of what is left, where it is told, were added to what was read: as many as the count says, and none
-- with room for one only at the end.
pub record TakesFront (left now : Option (List ℕ)) (read grown : List ℕ) (count room : ℕ) : Type 0 where
  pub fits : count ≤ room
  pub length : length grown ≡ length read + count
  pub told : (bytes : List ℕ) → left ≡ Some bytes → (piece rest : List ℕ) × (bytes ≡ piece ++ rest) × (now ≡ Some rest) × (grown ≡ read ++ piece)
  pub end : (bytes : List ℕ) → left ≡ Some bytes → count ≡ 0 → 0 < room → bytes ≡ []
