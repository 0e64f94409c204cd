-- Which JSON is which node of a decision tree (docs/report.md, "Decision trees").
use Rattle.std.specs.Prelude.{ℕ, List, Bool, true, map, nat_lt, Option, Some, None, option_map, option_and_then, codes, if◌then◌else◌}
use Rattle.std.specs.List.{list_all}
use Rattle.std.specs.Str.{bytes_eq}
use Rattle.serde_json.specs.Data.{Data, null, boolean, number, string, array, object, Items}
use Rattle.serde_json.specs.Find.{at, as_number, as_u64, as_str, as_bool, as_array}
use Rattle.explain_report.specs.Reading.{all_of}
use Rattle.explain_tree.specs.declared.nodes.Case.{Case}
use Rattle.explain_tree.specs.declared.nodes.Case.TheVariants as cases
use Rattle.explain_tree.specs.declared.nodes.Branch.{Branch}
use Rattle.explain_tree.specs.declared.nodes.Node.{Node}
use Rattle.explain_tree.specs.declared.nodes.Node.TheVariants as nodes

-- a case: a variant, a flag, a range with the ends that it has, a text, a length, each length from the sum on, all other parts
pub data CaseTree : Type 0 where
  OfVariant : List ℕ → CaseTree
  OfFlag : Bool → CaseTree
  OfSpan : (low high : Option (List ℕ)) → CaseTree
  OfText : List ℕ → CaseTree
  OfLength : ℕ → CaseTree
  OfLonger : (front back : ℕ) → CaseTree
  OfElse : CaseTree

-- a case, and the node where it goes on
pub record BranchTree : Type 0 where
  pub case : CaseTree
  pub next : ℕ

-- a node: looks at a place; asks the guard of an arm, and goes on where it refuses; takes an arm; no arm is left; no value
pub data NodeTree : Type 0 where
  OfSwitch : (place : List ℕ) → List BranchTree → NodeTree
  OfAsk : (arm refused : ℕ) → NodeTree
  OfTake : (arm : ℕ) → NodeTree
  OfMiss OfVoid : NodeTree

abbrev pub case_view : Case → CaseTree
case_view (cases.Variant name) = OfVariant name.now
case_view (cases.Flag b) = OfFlag b
case_view (cases.Span low high) = OfSpan (option_map (λ t. t.now) low) (option_map (λ t. t.now) high)
case_view (cases.Text t) = OfText t.now
case_view (cases.Length n) = OfLength n
case_view (cases.Longer front back) = OfLonger front back
case_view cases.Else = OfElse

abbrev pub branch_view : Branch → BranchTree
branch_view b = record { case = case_view b.case; next = b.next }

abbrev pub node_view : Node → NodeTree
node_view (nodes.Switch place branches) = OfSwitch place.now (map branch_view branches.items)
node_view (nodes.Ask arm refused) = OfAsk arm refused
node_view (nodes.Take arm) = OfTake arm
node_view nodes.Miss = OfMiss
node_view nodes.Void = OfVoid

-- the items of a list by their numbers
abbrev pub text_item : ℕ → Data → Option (List ℕ)
text_item i d = option_and_then as_str (at i d)

abbrev pub number_item : ℕ → Data → Option ℕ
number_item i d = option_and_then as_u64 (option_and_then as_number (at i d))

abbrev pub flag_item : ℕ → Data → Option Bool
flag_item i d = option_and_then as_bool (at i d)

abbrev pub items_item : ℕ → Data → Option Items
items_item i d = option_and_then as_array (at i d)

-- a text, or `null` for none
abbrev pub end_of : Data → Option (Option (List ℕ))
end_of null = Some None
end_of (boolean b) = None
end_of (number n) = None
end_of (string s) = Some (Some s)
end_of (array ds) = None
end_of (object ms) = None

abbrev pub end_item : ℕ → Data → Option (Option (List ℕ))
end_item i d = option_and_then end_of (at i d)

-- a case by its first item
abbrev pub span_of : Data → Option CaseTree
span_of d = option_and_then (λ low. option_map (λ high. OfSpan low high) (end_item 2 d)) (end_item 1 d)

abbrev pub longer_of : Data → Option CaseTree
longer_of d = option_and_then (λ front. option_map (λ back. OfLonger front back) (number_item 2 d)) (number_item 1 d)

abbrev pub variant_of : Data → Option CaseTree
variant_of d = option_map OfVariant (text_item 1 d)

abbrev pub flag_of : Data → Option CaseTree
flag_of d = option_map OfFlag (flag_item 1 d)

abbrev pub text_of : Data → Option CaseTree
text_of d = option_map OfText (text_item 1 d)

abbrev pub length_of : Data → Option CaseTree
length_of d = option_map OfLength (number_item 1 d)

abbrev pub case_by : List ℕ → Data → Option CaseTree
case_by head d =
    if bytes_eq head (codes "variant") then variant_of d
    else (if bytes_eq head (codes "flag") then flag_of d
    else (if bytes_eq head (codes "range") then span_of d
    else (if bytes_eq head (codes "text") then text_of d
    else (if bytes_eq head (codes "length") then length_of d
    else (if bytes_eq head (codes "longer") then longer_of d
    else (if bytes_eq head (codes "else") then Some OfElse
    else None))))))

abbrev pub case_of : Data → Option CaseTree
case_of d = option_and_then (λ head. case_by head d) (text_item 0 d)

-- a case with its node
abbrev pub branch_of : Data → Option BranchTree
branch_of d =
    option_and_then (λ case. option_map (λ next. record { case = case; next = next }) (number_item 1 d)) (option_and_then case_of (at 0 d))

-- a node by its first item
abbrev pub switch_of : Data → Option NodeTree
switch_of d =
    option_and_then (λ place. option_map (λ branches. OfSwitch place branches) (option_and_then (all_of branch_of) (items_item 2 d))) (text_item 1 d)

abbrev pub ask_of : Data → Option NodeTree
ask_of d = option_and_then (λ arm. option_map (λ refused. OfAsk arm refused) (number_item 3 d)) (number_item 1 d)

abbrev pub take_of : Data → Option NodeTree
take_of d = option_map OfTake (number_item 1 d)

abbrev pub node_by : List ℕ → Data → Option NodeTree
node_by head d =
    if bytes_eq head (codes "switch") then switch_of d
    else (if bytes_eq head (codes "ask") then ask_of d
    else (if bytes_eq head (codes "take") then take_of d
    else (if bytes_eq head (codes "miss") then Some OfMiss
    else (if bytes_eq head (codes "void") then Some OfVoid
    else None))))

abbrev pub node_of : Data → Option NodeTree
node_of d = option_and_then (λ head. node_by head d) (text_item 0 d)

-- the branch goes on at one of so many nodes
abbrev pub is_branch_inside : ℕ → BranchTree → Bool
is_branch_inside count b = nat_lt b.next count

-- the node goes on at nodes of so many alone
abbrev pub is_node_inside : ℕ → NodeTree → Bool
is_node_inside count (OfSwitch place branches) = list_all (is_branch_inside count) branches
is_node_inside count (OfAsk arm refused) = nat_lt refused count
is_node_inside count (OfTake arm) = true
is_node_inside count OfMiss = true
is_node_inside count OfVoid = true
