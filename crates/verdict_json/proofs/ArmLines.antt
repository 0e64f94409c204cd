-- The JSON of arms to add, piece by piece.
use Rattle.std.proofs.Common.{◌≡◌, refl, List, ℕ, ◌++◌, map, false, codes}
use Rattle.serde_json.specs.Data.{string}
use Rattle.serde_json.specs.View.{items_of}
use Rattle.serde_json.specs.Written.{compact_text, items_text}
use Rattle.serde_json.proofs.OnLiterals.{serde_json_on_literals}
use Rattle.verdict_json.specs.Report.{arms_data}

pub arms_written : (name : List ℕ) (arms : List (List ℕ)) →
    compact_text (arms_data name arms)
    ≡ codes "{\"arms\":[" ++ (items_text false (items_of (map string arms)) ++ (codes ",\"name\":"
    ++ (compact_text (string name) ++ codes "}")))
unfolding serde_json_on_literals
arms_written name arms = refl
