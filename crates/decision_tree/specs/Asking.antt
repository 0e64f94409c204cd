-- Rows in front whose guards are asked one after the other.
use Rattle.std.specs.Prelude.{◌≡◌, ℕ, ◌<◌, Bool, true, ◌&&◌, List, Some, slice_get}
use Rattle.match_model.specs.DecisionTrees.{all_wild}
use Rattle.match_model.specs.Matrices.{MRow}

-- the row has only wildcards and names left, and a guard
abbrev pub asks_guard : {T : Type 0} → MRow T → Bool
asks_guard r = r.guarded && all_wild r

-- each of so many rows in front is one
abbrev pub AreAsked : {T : Type 0} → (count : ℕ) → List (MRow T) → Type 0
AreAsked {T} count rows = (k : ℕ) (r : MRow T) → k < count → slice_get rows k ≡ Some r → asks_guard r ≡ true
