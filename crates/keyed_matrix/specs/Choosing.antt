-- What is chosen among the alternatives of a pattern.
use Rattle.std.specs.Prelude.{ℕ, Bool, List, [], ◌∷◌, ◌++◌, map, cond, Some}
use Rattle.std.specs.List.{flat_map, filter_map}
use Rattle.match_model.specs.ArenaPatterns.{MBound, MDePat, uid_of}
use Rattle.match_model.specs.Constructors.{MCtor}
use Rattle.match_model.specs.Rows.{Choice, choices_of, first_ctor}
use Rattle.pattern_arena.specs.Trees.{tree, plain_bound}
use Rattle.keyed_matrix.specs.declared.choices.PatChoice.{PatChoice}

-- the choice, as the definitions have it
abbrev pub plain_choice : {T : Type 0} → PatChoice T → Choice T
plain_choice c = record { pat = tree c.pat.now; chosen = c.chosen.items; binds = map plain_bound c.binds.items }

-- the choices
abbrev pub plain_choices : {T : Type 0} → List (PatChoice T) → List (Choice T)
plain_choices cs = map plain_choice cs

-- the choice, where these alternatives were chosen and these names bound before
abbrev pub choice_after : {T : Type 0} → (chosen : List ℕ) → List MBound → Choice T → Choice T
choice_after chosen binds c = record { pat = c.pat; chosen = chosen ++ c.chosen; binds = binds ++ c.binds }

-- the choices of the pattern, after these
abbrev pub choices_after : {T : Type 0} → (chosen : List ℕ) → List MBound → MDePat T → List (Choice T)
choices_after chosen binds p = map (choice_after chosen binds) (choices_of p)

-- the choices of these alternatives, each chosen where they are several
abbrev pub choices_of_each : {T : Type 0} → (chosen : List ℕ) → List MBound → (several : Bool) → List (MDePat T) →
    List (Choice T)
choices_of_each chosen binds several ps =
    flat_map (λ q. choices_after (chosen ++ cond several (uid_of q ∷ []) []) binds q) ps

-- the constructors of what was chosen, without wildcards
abbrev pub ctors_chosen : {T : Type 0} → List (Choice T) → List MCtor
ctors_chosen cs = filter_map (λ c. first_ctor (Some c.pat ∷ [])) cs

-- those of each of the patterns, once it is taken apart
abbrev pub ctors_of_each : {T : Type 0} → List (MDePat T) → List MCtor
ctors_of_each ps = flat_map (λ p. ctors_chosen (choices_of p)) ps
