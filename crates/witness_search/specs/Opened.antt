-- Open places as the definitions have them: the one that is looked at first stands first.
use Rattle.std.specs.Prelude.{ℕ, List, map, reverse}
use Rattle.match_model.specs.Contexts.{Open}
use Rattle.pattern_matrix.specs.Columns.{plain_column}
use Rattle.witness_search.specs.declared.opened.Opened.{Opened}

-- the places
abbrev pub places_of : {T : Type 0} → List (Opened T) → List (Open T)
places_of opened = map (λ o. plain_column o.column) (reverse opened)

-- their numbers
abbrev pub numbers_of : {T : Type 0} → List (Opened T) → List ℕ
numbers_of opened = map (λ o. o.number) (reverse opened)
