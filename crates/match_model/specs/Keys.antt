-- Keys: what was decided of the or-patterns of an arm, and which of two decisions comes first (our own choice).
use Rattle.std.specs.Prelude.{◌≡◌, ◌<◌, ℕ, List, [], ◌∷◌, nat_eq, Option, Some, None, cond}

-- an or-pattern that was decided: its number in the arm, and that of the alternative that was taken
pub record Decision : Type 0 where
  pub number : ℕ
  pub alternative : ℕ

-- the first, or else the second
abbrev pub or_else : Option ℕ → Option ℕ → Option ℕ
or_else None b = b
or_else (Some x) b = Some x

-- the alternative that was taken of each or-pattern, by its number; none where it is not decided
abbrev pub Key : Type 0
Key = ℕ → Option ℕ

-- the key of decisions, in any order
abbrev pub key_of : List Decision → Key
key_of [] o = None
key_of (d ∷ ds) o = cond (nat_eq d.number o) (Some d.alternative) (key_of ds o)

-- what either of the keys says
abbrev pub both_keys : Key → Key → Key
both_keys f g o = or_else (f o) (g o)

-- both keys decide the first or-pattern at which they differ, and the one took the earlier alternative of it
pub record IsBefore (f g : Key) : Type 0 where
  pub at : ℕ
  pub one : ℕ
  pub other : ℕ
  pub first : f at ≡ Some one
  pub second : g at ≡ Some other
  pub less : one < other
  pub same : (o : ℕ) → o < at → f o ≡ g o
