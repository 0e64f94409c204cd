-- The JSON of nodes, piece by piece.
use Rattle.std.proofs.Common.{◌≡◌, refl, ℕ, false, List, ◌++◌, codes}
use Rattle.std.specs.Prelude.{decimal, map}
use Rattle.serde_json.specs.View.{items_of}
use Rattle.serde_json.specs.Data.{string}
use Rattle.serde_json.specs.Written.{compact_text, items_text}
use Rattle.serde_json.proofs.OnLiterals.{serde_json_on_literals}
use Rattle.match_model.specs.declared.Mode.{Mode}
use Rattle.match_model.specs.declared.Mode.TheVariants as modes
use Rattle.match_model.specs.Places.{MStep}
use Rattle.match_model.specs.Trees.{MBind}
use Rattle.witness_text.specs.Trees.{NameTree}
use Rattle.witness_text.specs.Texts.{name_text}
use Rattle.tree_text.specs.Trees.{OfVariant, OfLength, OfLonger, BranchTree, OfSwitch, OfAsk, OfTake}
use Rattle.tree_text.specs.Reported.{count_data, case_data, branch_data, mode_word, place_data, bind_data, node_data}

pub count_written : (n : ℕ) → compact_text (count_data n) ≡ decimal n
count_written n = refl

pub variant_written : (name : NameTree) →
    compact_text (case_data (OfVariant name)) ≡ codes "[\"variant\"," ++ (compact_text (string (name_text name)) ++ codes "]")
unfolding serde_json_on_literals
variant_written name = refl

pub length_written : (n : ℕ) → compact_text (case_data (OfLength n)) ≡ codes "[\"length\"," ++ (decimal n ++ codes "]")
unfolding serde_json_on_literals
length_written n = refl

pub longer_written : (front back : ℕ) →
    compact_text (case_data (OfLonger front back)) ≡ codes "[\"longer\"," ++ (decimal front ++ (codes "," ++ (decimal back ++ codes "]")))
unfolding serde_json_on_literals
longer_written front back = refl

pub branch_written : (b : BranchTree) →
    compact_text (branch_data b) ≡ codes "[" ++ (compact_text (case_data b.case) ++ (codes "," ++ (compact_text (count_data b.next) ++ codes "]")))
branch_written b = refl

-- what stands between a name that is bound so and its place
abbrev pub mode_between : Mode → List ℕ
mode_between mode = codes "," ++ (compact_text (string (mode_word mode)) ++ codes ",")

pub bind_written : (b : MBind) →
    compact_text (bind_data b) ≡ codes "[" ++ (compact_text (string b.name) ++ (mode_between b.mode ++ (compact_text (place_data b.place) ++ codes "]")))
unfolding serde_json_on_literals
bind_written b = at b.mode
  where
    at : (mode : Mode) →
        compact_text (bind_data (record b { mode = mode })) ≡ codes "[" ++ (compact_text (string b.name) ++ (mode_between mode ++ (compact_text (place_data b.place) ++ codes "]")))
    at modes.Move = refl
    at modes.Ref = refl
    at modes.RefMut = refl

pub switch_written : (place : List MStep) (bs : List BranchTree) →
    compact_text (node_data (OfSwitch place bs))
    ≡ codes "[\"switch\"," ++ (compact_text (place_data place) ++ (codes ",[" ++ (items_text false (items_of (map branch_data bs)) ++ codes "]")))
unfolding serde_json_on_literals
switch_written place bs = refl

pub ask_written : (arm : ℕ) (binds : List MBind) (refused : ℕ) →
    compact_text (node_data (OfAsk arm binds refused))
    ≡ codes "[\"ask\"," ++ (compact_text (count_data arm) ++ (codes ",[" ++ (items_text false (items_of (map bind_data binds)) ++ (codes ","
    ++ (compact_text (count_data refused) ++ codes "]")))))
unfolding serde_json_on_literals
ask_written arm binds refused = refl

pub take_written : (arm : ℕ) (binds : List MBind) →
    compact_text (node_data (OfTake arm binds))
    ≡ codes "[\"take\"," ++ (compact_text (count_data arm) ++ (codes ",[" ++ (items_text false (items_of (map bind_data binds)) ++ codes "]")))
unfolding serde_json_on_literals
take_written arm binds = refl
