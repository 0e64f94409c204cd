-- The report of `arms` (docs/report.md, "Arms to add"): the arms that complete each match.
use Rattle.std.specs.Prelude.{ℕ, List, [], ◌∷◌, map, Option, Some, None, option_and_then, codes, String, string_bytes}
use Rattle.std.specs.Global.{Vec, Global}
use Rattle.serde_json.specs.Data.{Data}
use Rattle.serde_json.specs.Find.{get, as_str}
use Rattle.explain_report.specs.Reading.{list_at}
use Rattle.explain_report.specs.Skimming.{read_skimmed}

-- patterns, as texts
abbrev pub arms_view : Vec (String Global) → List (List ℕ)
arms_view arms = map string_bytes arms.items

-- the arms to add to a match; none where the function is refused
abbrev pub arms_from : Option Data → Data → Option (List (List ℕ))
arms_from (Some refused) d = Some []
arms_from None d = list_at as_str (codes "arms") d

abbrev pub arms_of_function : Data → Option (List (List ℕ))
arms_of_function d = arms_from (get (codes "refused") d) d

-- those of each function; of none where the file is refused
abbrev pub all_arms_from : Option Data → Data → Option (List (List (List ℕ)))
all_arms_from (Some refused) d = Some []
all_arms_from None d = list_at arms_of_function (codes "functions") d

unfoldable pub arms_of : Data → Option (List (List (List ℕ)))
arms_of d = all_arms_from (get (codes "refused") d) d

-- the arms that a report of `arms` tells, function by function; none where there is no report
unfoldable pub read_arms : List ℕ → Option (List (List (List ℕ)))
read_arms [] = Some []
read_arms (byte ∷ bytes) = option_and_then arms_of (read_skimmed (byte ∷ bytes))
