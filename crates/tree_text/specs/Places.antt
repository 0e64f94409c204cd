-- Places as a report writes them (our own choice).
use Rattle.std.specs.Prelude.{ℕ, List, [], ◌∷◌, ◌++◌, codes, decimal, flat_map}
use Rattle.match_model.specs.Places.{MStep, ThroughStep, FieldStep, FrontStep, BackStep, MiddleStep}

-- a step: through a reference; to a part of a variant, struct or tuple; to an item from the front, from the back, of which 1
-- is the last; or to the items without the first and the last so many
abbrev pub step_text : MStep → List ℕ
step_text ThroughStep = codes "*"
step_text (FieldStep k i) = codes "." ++ decimal i
step_text (FrontStep i) = codes "[" ++ (decimal i ++ codes "]")
step_text (BackStep i) = codes "[-" ++ (decimal i ++ codes "]")
step_text (MiddleStep f b) = codes "[" ++ (decimal f ++ (codes "..-" ++ (decimal b ++ codes "]")))

-- a place: the scrutinee, and the steps from there
abbrev pub place_text : List MStep → List ℕ
place_text steps = codes "$" ++ flat_map step_text steps
