-- No meaning: what is left to try, for the proofs of `selecting`.
use Rattle.std.specs.Prelude.{ℕ, suc, Bool, true, false, List, [], ◌∷◌, ◌++◌, map, Option, Some, None}
use Rattle.match_model.specs.Select.{Asked, Selected, Try, try_of}
use Rattle.match_model.specs.Ways.{Way, Binding, bare_way}
use Rattle.first_match.specs.declared.held.Ending.{Ending}
use Rattle.first_match.specs.Selections.{ending_view}

-- a way that binds so
abbrev pub way_binding : List Binding → Way
way_binding bs = record bare_way { bindings = bs }

-- the ways that bind so as things to try
abbrev pub tries_binding : (arm : ℕ) → (guarded : Bool) → List (List Binding) → List Try
tries_binding j guarded bss = map (λ bs. try_of j guarded (way_binding bs)) bss

-- how many ways of an arm its guard may be asked on: one for each answer up to the first that takes the arm; where none
-- does, one more than there are answers
abbrev pub ways_asked : (answers : List Bool) → ℕ
ways_asked [] = 1
ways_asked (true ∷ answers) = 1
ways_asked (false ∷ answers) = suc (ways_asked answers)

-- these guards are asked before all that
abbrev pub after_asking : List Asked → Selected → Selected
after_asking asked s = record { asked = asked ++ s.asked; outcome = s.outcome }

-- the guards that were asked, and how it ends; or else what the rest of the arms does
abbrev pub ended_or : Option Ending → (asked : List Asked) → (rest : Selected) → Selected
ended_or None asked rest = after_asking asked rest
ended_or (Some e) asked rest = record { asked = asked; outcome = ending_view e }
