-- What rows of a search for a match may hold.
use Rattle.std.specs.Prelude.{⊤, ℕ, ◌+◌, List, [], ◌∷◌, ◌++◌, length, Some, None}
use Rattle.std.specs.List.{Contains, flat_map}
use Rattle.match_model.specs.ArenaPatterns.{MDePat, de_pat, MDePats, no_de_pats, more_de_pats, MDeArm}
use Rattle.match_model.specs.Rows.{Head}

abbrev mutual
  -- the pattern and those inside it, in preorder
  pub patterns_in : {T : Type 0} → MDePat T → List (MDePat T)
  patterns_in (de_pat c t uid at subs binds) = de_pat c t uid at subs binds ∷ patterns_in_all subs

  -- the patterns and those inside them
  pub patterns_in_all : {T : Type 0} → MDePats T → List (MDePat T)
  patterns_in_all no_de_pats = []
  patterns_in_all (more_de_pats p ps) = patterns_in p ++ patterns_in_all ps

-- the patterns of the arms
abbrev pub patterns_of : {T : Type 0} → List (MDeArm T) → List (MDePat T)
patterns_of arms = flat_map (λ a. patterns_in a.pat) arms

-- how many arms there are, with the one behind all, and what they write
pub record Scope (T : Type 0) : Type 0 where
  pub arms : ℕ
  pub written : List (MDeArm T)

-- what the rows of a match with these arms may hold
abbrev pub scope_for : {T : Type 0} → List (MDeArm T) → Scope T
scope_for arms = record { arms = length arms + 1; written = arms }

-- the head is of the patterns
abbrev pub IsKnown : {T : Type 0} → Scope T → Head T → Type 0
IsKnown scope None = ⊤
IsKnown scope (Some p) = Contains (patterns_of scope.written) p

-- all heads are
abbrev pub AreKnown : {T : Type 0} → Scope T → List (Head T) → Type 0
AreKnown scope [] = ⊤
AreKnown scope (h ∷ hs) = IsKnown scope h × AreKnown scope hs
