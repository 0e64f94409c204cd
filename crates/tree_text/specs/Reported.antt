-- Trees as JSON.
use Rattle.std.specs.Prelude.{ℕ, List, map, codes}
use Rattle.match_model.specs.declared.Mode.{Mode}
use Rattle.match_model.specs.declared.Mode.TheVariants as modes
use Rattle.match_model.specs.Places.{MStep}
use Rattle.match_model.specs.Trees.{MBind}
use Rattle.serde_json.specs.Data.{Data, number, unsigned, string, array, Items, no_items, item}
use Rattle.serde_json.specs.View.{items_of}
use Rattle.witness_text.specs.Texts.{name_text}
use Rattle.witness_text.specs.Reported.{headed, flag_data, range_data, end_data, one_text_data}
use Rattle.tree_text.specs.Places.{place_text}
use Rattle.tree_text.specs.Trees.{CaseTree, OfVariant, OfFlag, OfSpan, OfText, OfLength, OfLonger, OfElse, BranchTree, NodeTree, OfSwitch, OfAsk, OfTake, OfMiss, OfVoid}

-- a count, a number of an arm or a number of a node
abbrev pub count_data : ℕ → Data
count_data n = number (unsigned n)

-- a case
abbrev pub case_data : CaseTree → Data
case_data (OfVariant name) = headed (codes "variant") (item (string (name_text name)) no_items)
case_data (OfFlag b) = flag_data b
case_data (OfSpan r) = range_data (end_data r.low) (end_data r.high)
case_data (OfText t) = one_text_data t
case_data (OfLength n) = headed (codes "length") (item (count_data n) no_items)
case_data (OfLonger front back) = headed (codes "longer") (item (count_data front) (item (count_data back) no_items))
case_data OfElse = headed (codes "else") no_items

-- a case with the number of the node where it goes on
abbrev pub branch_data : BranchTree → Data
branch_data b = array (item (case_data b.case) (item (count_data b.next) no_items))

-- the cases of a switch
abbrev pub branches_data : List BranchTree → Data
branches_data bs = array (items_of (map branch_data bs))

-- how a name is bound
abbrev pub mode_word : Mode → List ℕ
mode_word modes.Move = codes "move"
mode_word modes.Ref = codes "ref"
mode_word modes.RefMut = codes "ref mut"

-- a place
abbrev pub place_data : List MStep → Data
place_data steps = string (place_text steps)

-- a name, how it is bound, and the place of what it is bound to
abbrev pub bind_data : MBind → Data
bind_data b = array (item (string b.name) (item (string (mode_word b.mode)) (item (place_data b.place) no_items)))

-- the names that an arm binds
abbrev pub binds_data : List MBind → Data
binds_data bs = array (items_of (map bind_data bs))

-- a node
abbrev pub node_data : NodeTree → Data
node_data (OfSwitch place bs) = headed (codes "switch") (item (place_data place) (item (branches_data bs) no_items))
node_data (OfAsk arm binds refused) =
    headed (codes "ask") (item (count_data arm) (item (binds_data binds) (item (count_data refused) no_items)))
node_data (OfTake arm binds) = headed (codes "take") (item (count_data arm) (item (binds_data binds) no_items))
node_data OfMiss = headed (codes "miss") no_items
node_data OfVoid = headed (codes "void") no_items

-- the nodes of a tree, by their numbers
abbrev pub tree_data : List NodeTree → Data
tree_data nodes = array (items_of (map node_data nodes))
