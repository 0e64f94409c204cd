-- No meaning: the parts of a value that patterns meet, for the proofs of `parts` and `ways`.
use Rattle.std.specs.Prelude.{List, [], ◌++◌, map, length, Option}
use Rattle.match_model.specs.Constructors.{MCtor, MShape, RowCtor, builds, covers, parts_met}
use Rattle.match_model.specs.Places.{some_if}
use Rattle.match_model.specs.Values.{MValue, parts_of}
use Rattle.tree_eval.specs.Views.{plain_value}
use Rattle.first_match.specs.declared.parts.Met.{Met}

-- the parts in front, and then those at the back
abbrev pub plain_met : Met → List MValue
plain_met m = map plain_value m.front.now ++ map plain_value m.back.now

-- the parts that the patterns below the constructor meet, where it builds the value
abbrev pub values_met : MCtor → MValue → Option (List MValue)
values_met c v = some_if (builds [] c v) (parts_met c (parts_of v))

-- the same of a row of these items
abbrev pub row_met : MShape → List MValue → Option (List MValue)
row_met s items = some_if (covers s (length items)) (parts_met (RowCtor s) items)
