-- The references that a witness begins with, and what is written of them.
use Rattle.std.specs.Prelude.{ℕ, Bool, true, false, List, [], ◌++◌, if◌then◌else◌, codes}
use Rattle.serde_json.specs.Data.{string}
use Rattle.serde_json.specs.Written.{compact_text}
use Rattle.witness_text.specs.Trees.{WitnessTree, OfText, OfPoint}
use Rattle.witness_text.specs.Reported.{point_mark}

-- whether there is one
abbrev pub begins_with_point : WitnessTree → Bool
begins_with_point (OfPoint mutable w) = true
begins_with_point w = false

-- what stands behind them
abbrev pub behind_points : WitnessTree → WitnessTree
behind_points (OfPoint mutable w) = behind_points w
behind_points w = w

-- what stands before its tree
abbrev pub starts_text : WitnessTree → List ℕ
starts_text (OfPoint mutable w) =
    (codes "[\"point\"," ++ (compact_text (string (point_mark mutable)) ++ codes ",")) ++ starts_text w
starts_text w = []

-- what closes them
abbrev pub ends_text : WitnessTree → List ℕ
ends_text (OfPoint mutable w) = codes "]" ++ ends_text w
ends_text w = []

-- what a reference begins with
abbrev pub mark_text : (mutable : Bool) → List ℕ
mark_text true = codes "&mut "
mark_text false = codes "&"

-- whether a reference to the witness is shown as the literal of a text alone
abbrev pub is_literal : (mutable : Bool) → WitnessTree → Bool
is_literal false (OfText t) = true
is_literal mutable w = false

-- what stands behind the marks of references
abbrev pub behind_marks : WitnessTree → WitnessTree
behind_marks (OfPoint mutable w) = if is_literal mutable w then OfPoint mutable w else behind_marks w
behind_marks w = w

-- the marks
abbrev pub marks_text : WitnessTree → List ℕ
marks_text (OfPoint mutable w) = if is_literal mutable w then [] else mark_text mutable ++ marks_text w
marks_text w = []
