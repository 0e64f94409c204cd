-- No meaning: what the ways of a pattern bind, for the proofs of `ways`.
use Rattle.std.specs.Prelude.{ℕ, suc, ◌+◌, Bool, true, false, List, [], ◌∷◌, ◌++◌, map}
use Rattle.std.specs.List.{flat_map}
use Rattle.match_model.specs.ArenaPatterns.{MDePat, de_pat, MDePats, no_de_pats, more_de_pats}
use Rattle.match_model.specs.ArenaWays.{arena_ways, ways_by_ctor, arena_alternatives_ways, subs_ways, chosen_of}
use Rattle.match_model.specs.Constructors.{MCtor, WildCtor, OrCtor}
use Rattle.match_model.specs.Values.{MValue}
use Rattle.match_model.specs.Ways.{Way, Binding, bindings_of_both}

-- what each of the ways binds
abbrev pub bound_by : List Way → List (List Binding)
bound_by ws = map (λ w. w.bindings) ws

-- what each way of the pattern binds
abbrev pub bound_ways : {T : Type 0} → MDePat T → MValue → List (List Binding)
bound_ways p v = bound_by (arena_ways p v)

-- the same without the pattern's own names
abbrev pub inner_ways : {T : Type 0} → MDePat T → MValue → List (List Binding)
inner_ways (de_pat c t uid at subs binds) v =
    bound_by (ways_by_ctor c at (λ u. arena_alternatives_ways (chosen_of subs) subs u) (λ parts. subs_ways subs parts) v)

-- each of the first with each of the second, the first varying slowest
abbrev pub all_both : List (List Binding) → List (List Binding) → List (List Binding)
all_both firsts seconds = flat_map (λ a. map (bindings_of_both a) seconds) firsts

-- what each combination of one way per part binds
abbrev pub bound_on : {T : Type 0} → MDePats T → List MValue → List (List Binding)
bound_on no_de_pats [] = [] ∷ []
bound_on no_de_pats (_ ∷ _) = []
bound_on (more_de_pats p ps) [] = []
bound_on (more_de_pats p ps) (v ∷ vs) = all_both (bound_ways p v) (bound_on ps vs)

-- what each way of each of the patterns binds
abbrev pub bound_in : {T : Type 0} → MDePats T → MValue → List (List Binding)
bound_in no_de_pats v = []
bound_in (more_de_pats p ps) v = bound_ways p v ++ bound_in ps v

-- the constructor is a wildcard
abbrev pub is_wild : MCtor → Bool
is_wild WildCtor = true
is_wild _ = false

-- the constructor is that of an or-pattern
abbrev pub is_or : MCtor → Bool
is_or OrCtor = true
is_or _ = false

abbrev mutual
  -- how large a pattern is
  pub weight : {T : Type 0} → MDePat T → ℕ
  weight (de_pat c t uid at subs binds) = suc (weight_all subs)

  -- how large patterns are together
  pub weight_all : {T : Type 0} → MDePats T → ℕ
  weight_all no_de_pats = 0
  weight_all (more_de_pats p ps) = suc (weight p + weight_all ps)
