-- Patterns of an engine each of which has a number of its own and a type of one kind.
use Rattle.std.specs.Prelude.{ℕ, ◌+◌, ◌≤◌, ◌&&◌, nat_eq, nat_le, nat_lt, List, [], ◌∷◌, if◌then◌else◌}
use Rattle.match_model.specs.Lists.{Every}
use Rattle.match_model.specs.ArenaPatterns.{MDePat, de_pats_of, type_of}
use Rattle.match_model.specs.WellTyped.{uids_in, uids_in_all}
use Rattle.pattern_rules.specs.ArenaForms.{all_within, all_below}

-- how often the number stands among these
abbrev pub times : ℕ → List ℕ → ℕ
times n [] = 0
times n (m ∷ ms) = (if nat_eq n m then 1 else 0) + times n ms

-- 1 for a number that is at or above the first and below the second, else 0
abbrev pub once_within : (from to n : ℕ) → ℕ
once_within from to n = if nat_le from n && nat_lt n to then 1 else 0

-- the numbers are at or above the first and below the second, and none stands twice
pub record AreNumbered (from to : ℕ) (uids : List ℕ) : Type 0 where
  pub ordered : from ≤ to
  pub once : (n : ℕ) → times n uids ≤ once_within from to n

-- the uids in the pattern are so, and the types in it are of this kind
pub record IsMade {T : Type 0} (IsType : T → Type 0) (from to : ℕ) (p : MDePat T) : Type 0 where
  pub uids : AreNumbered from to (uids_in p)
  pub types : Every (λ q. IsType (type_of q)) (all_within p)

-- the same of several patterns, of which none has a uid of another
pub record AreMade {T : Type 0} (IsType : T → Type 0) (from to : ℕ) (ps : List (MDePat T)) : Type 0 where
  pub uids : AreNumbered from to (uids_in_all (de_pats_of ps))
  pub types : Every (λ q. IsType (type_of q)) (all_below (de_pats_of ps))
