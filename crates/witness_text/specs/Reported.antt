-- Witnesses and overlaps as JSON.
use Rattle.std.specs.Prelude.{ℕ, ℤ, Bool, true, false, List, [], map, Option, Some, None, codes, decimal, encode_utf8_all}
use Rattle.std.specs.Fmt.{signed_decimal}
use Rattle.match_model.specs.Numbers.{MEnd, Free, At}
use Rattle.serde_json.specs.Data.{Data, null, boolean, number, unsigned, string, array, object, Items, no_items, item, no_members, member}
use Rattle.serde_json.specs.View.{items_of}
use Rattle.witness_text.specs.Trees.{WitnessTree, Anything, Undeclared, OfFlag, OfInts, OfChars, OfText, OfOthers, OfTuple, OfUnitForm, OfTupleForm, OfBraceForm, OfPoint, OfRow, WitnessTrees, no_trees, more_trees, FieldTrees, no_fields, more_fields}
use Rattle.witness_text.specs.Texts.{name_text, pattern_text}

-- an array that begins with a word
abbrev pub headed : (word : List ℕ) → Items → Data
headed word items = array (item (string word) items)

-- a number of the source: a text of decimal digits
abbrev pub number_data : ℤ → Data
number_data z = string (signed_decimal z)

-- an end of a range of numbers; one that is free is `null`
abbrev pub end_data : MEnd → Data
end_data Free = null
end_data (At z) = number_data z

-- an end of a range of characters, by its scalar value
abbrev pub char_data : Option ℕ → Data
char_data None = null
char_data (Some c) = string (decimal c)

-- a range with these ends
abbrev pub range_data : (low high : Data) → Data
range_data low high = headed (codes "range") (item low (item high no_items))

-- a flag
abbrev pub flag_data : Bool → Data
flag_data b = headed (codes "flag") (item (boolean b) no_items)

-- a text
abbrev pub text_data : List ℕ → Data
text_data t = string (encode_utf8_all t)

-- the one text
abbrev pub one_text_data : List ℕ → Data
one_text_data t = headed (codes "text") (item (text_data t) no_items)

-- every text but these
abbrev pub others_data : List (List ℕ) → Data
others_data ts = headed (codes "else") (item (array (items_of (map text_data ts))) no_items)

-- a node of this name with these parts; a tuple's name is empty
abbrev pub node_data : (name : List ℕ) → Items → Data
node_data name parts = headed (codes "node") (item (string name) (item (array parts) no_items))

-- the mark of a reference
abbrev pub point_mark : (mutable : Bool) → List ℕ
point_mark true = codes "&mut"
point_mark false = codes "&"

-- a reference to what has this tree
abbrev pub point_data : (mutable : Bool) → Data → Data
point_data mutable d = headed (codes "point") (item (string (point_mark mutable)) (item d no_items))

-- a row of these items
abbrev pub row_data : (front : Items) → (longer : Bool) → (back : Items) → Data
row_data front longer back =
    headed (codes "row") (item (array front) (item (boolean longer) (item (array back) no_items)))

abbrev mutual
  -- the witness as a tree
  pub tree_data : WitnessTree → Data
  tree_data Anything = headed (codes "any") no_items
  tree_data Undeclared = headed (codes "later") no_items
  tree_data (OfFlag b) = flag_data b
  tree_data (OfInts kind r) = range_data (end_data r.low) (end_data r.high)
  tree_data (OfChars low high) = range_data (char_data low) (char_data high)
  tree_data (OfText t) = one_text_data t
  tree_data (OfOthers ts) = others_data ts
  tree_data (OfTuple ws) = node_data [] (parts_data ws)
  tree_data (OfUnitForm name) = node_data (name_text name) no_items
  tree_data (OfTupleForm name ws) = node_data (name_text name) (parts_data ws)
  tree_data (OfBraceForm name fs) = node_data (name_text name) (fields_data fs)
  tree_data (OfPoint mutable w) = point_data mutable (tree_data w)
  tree_data (OfRow front longer back) = row_data (parts_data front) longer (parts_data back)

  -- the parts, one after the other
  pub parts_data : WitnessTrees → Items
  parts_data no_trees = no_items
  parts_data (more_trees w ws) = item (tree_data w) (parts_data ws)

  -- the fields, without their names
  pub fields_data : FieldTrees → Items
  fields_data no_fields = no_items
  fields_data (more_fields name w fs) = item (tree_data w) (fields_data fs)

-- a text, and the tree that says the same
abbrev pub text_and_tree : List ℕ → Data → Data
text_and_tree text tree = object (member (codes "text") (string text) (member (codes "tree") tree no_members))

-- a witness in a report: as Rust writes it, and as a tree
abbrev pub witness_data : WitnessTree → Data
witness_data w = text_and_tree (pattern_text w) (tree_data w)

-- the witnesses of a report
abbrev pub witnesses_data : List WitnessTree → Data
witnesses_data ws = array (items_of (map witness_data ws))

-- two range patterns, at these places in the file, that have exactly one number in common
abbrev pub overlap_data : (earlier later : ℕ) → (common : ℤ) → Data
overlap_data earlier later common =
    object (member (codes "at") (number (unsigned earlier))
    (member (codes "value") (number_data common)
    (member (codes "with") (number (unsigned later)) no_members)))
