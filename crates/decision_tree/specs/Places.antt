-- Places of what names hold.
use Rattle.std.specs.Prelude.{List, [], ◌∷◌, ◌++◌}
use Rattle.match_model.specs.ArenaPatterns.{MPart, WholePart, MiddlePart}
use Rattle.match_model.specs.Places.{MStep, MiddleStep}

-- the place of the part of what stands at the place
abbrev pub part_place : List MStep → MPart → List MStep
part_place place WholePart = place
part_place place (MiddlePart front back) = place ++ MiddleStep front back ∷ []
