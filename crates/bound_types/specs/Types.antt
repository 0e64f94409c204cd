-- The types of the names that a pattern of the engine binds (our own choice).
use Rattle.std.specs.Prelude.{ℕ, Bool, List, [], ◌∷◌, ◌++◌, Option, option_map}
use Rattle.std.specs.List.{find, list_any}
use Rattle.match_model.specs.Texts.{text_eq}
use Rattle.match_model.specs.ArenaPatterns.{MBound, MDePat, de_pat, MDePats, no_de_pats, more_de_pats, type_of}

abbrev mutual
  -- the pattern and all below it in preorder: a pattern before those below it, an earlier part before a later one
  pub patterns_in : {T : Type 0} → MDePat T → List (MDePat T)
  patterns_in (de_pat c t uid at subs binds) = de_pat c t uid at subs binds ∷ patterns_in_all subs

  -- the patterns and all below them in preorder
  pub patterns_in_all : {T : Type 0} → MDePats T → List (MDePat T)
  patterns_in_all no_de_pats = []
  patterns_in_all (more_de_pats p ps) = patterns_in p ++ patterns_in_all ps

-- the name, by its UTF-8 bytes, is one of these
abbrev pub has_name : (name : List ℕ) → List MBound → Bool
has_name name binds = list_any (λ b. text_eq b.name name) binds

-- the pattern binds the name by itself
abbrev pub binds_name : {T : Type 0} → (name : List ℕ) → MDePat T → Bool
binds_name name (de_pat c t uid at subs binds) = has_name name binds

-- the type of the first pattern that binds the name, in preorder; a bound rest has the type of its row
abbrev pub bound_type : {T : Type 0} → MDePat T → (name : List ℕ) → Option T
bound_type p name = option_map type_of (find (binds_name name) (patterns_in p))

-- the same, of several patterns one after the other
abbrev pub bound_type_in : {T : Type 0} → MDePats T → (name : List ℕ) → Option T
bound_type_in ps name = option_map type_of (find (binds_name name) (patterns_in_all ps))
