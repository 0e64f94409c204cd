-- The JSON of witnesses and overlaps, piece by piece.
use Rattle.std.proofs.Common.{◌≡◌, ap, sym, refl, ℕ, Bool, true, false, List, [], ◌++◌, append_assoc, codes}
use Rattle.std.specs.Prelude.{ℤ, decimal, map}
use Rattle.serde_json.specs.View.{items_of}
use Rattle.serde_json.specs.Data.{Data, boolean, string, Items, no_items}
use Rattle.serde_json.specs.Written.{compact_text, items_text}
use Rattle.serde_json.proofs.OnLiterals.{serde_json_on_literals}
use Rattle.witness_text.specs.Texts.{flag_text}
use Rattle.witness_text.specs.Reported.{number_data, range_data, flag_data, text_data, one_text_data, others_data, node_data, point_mark, point_data, row_data, text_and_tree, overlap_data}

pub flag_written : (b : Bool) → compact_text (flag_data b) ≡ codes "[\"flag\"," ++ (flag_text b ++ codes "]")
unfolding serde_json_on_literals
flag_written true = refl
flag_written false = refl

pub range_written : (low high : Data) →
    compact_text (range_data low high) ≡ codes "[\"range\"," ++ (compact_text low ++ (codes "," ++ (compact_text high ++ codes "]")))
unfolding serde_json_on_literals
range_written low high = refl

pub text_written : (t : List ℕ) →
    compact_text (one_text_data t) ≡ codes "[\"text\"," ++ (compact_text (text_data t) ++ codes "]")
unfolding serde_json_on_literals
text_written t = refl

pub others_written : (ts : List (List ℕ)) →
    compact_text (others_data ts) ≡ codes "[\"else\",[" ++ (items_text false (items_of (map text_data ts)) ++ codes "]")
unfolding serde_json_on_literals
others_written ts = refl

pub tuple_written : (parts : Items) → compact_text (node_data [] parts) ≡ codes "[\"node\",\"\",[" ++ (items_text false parts ++ codes "]")
unfolding serde_json_on_literals
tuple_written parts = refl

-- what stands before the parts of a node
abbrev pub node_start : List ℕ → List ℕ
node_start name = codes "[\"node\"," ++ (compact_text (string name) ++ codes ",[")

pub node_written : (name : List ℕ) (parts : Items) → compact_text (node_data name parts) ≡ node_start name ++ (items_text false parts ++ codes "]")
unfolding serde_json_on_literals
node_written name parts =
    ap (λ z. codes "[\"node\"," ++ z) (sym (append_assoc (compact_text (string name)) (codes ",[") (items_text false parts ++ codes "]")))

pub unit_written : (name : List ℕ) → compact_text (node_data name no_items) ≡ node_start name ++ codes "]]"
unit_written name = node_written name no_items

pub point_written : (mutable : Bool) (d : Data) →
    compact_text (point_data mutable d)
    ≡ (codes "[\"point\"," ++ (compact_text (string (point_mark mutable)) ++ codes ",")) ++ (compact_text d ++ codes "]")
unfolding serde_json_on_literals
point_written true d = refl
point_written false d = refl

pub row_written : (front : Items) (longer : Bool) (back : Items) →
    compact_text (row_data front longer back)
    ≡ codes "[\"row\",[" ++ (items_text false front ++ ((codes "," ++ (compact_text (boolean longer) ++ codes ",[")) ++ (items_text false back ++ codes "]")))
unfolding serde_json_on_literals
row_written front true back = refl
row_written front false back = refl

pub entry_written : (text : List ℕ) (tree : Data) →
    compact_text (text_and_tree text tree) ≡ codes "{\"text\":" ++ (compact_text (string text) ++ (codes ",\"tree\":" ++ (compact_text tree ++ codes "}")))
unfolding serde_json_on_literals
entry_written text tree = refl

pub overlap_written : (earlier later : ℕ) (z : ℤ) →
    compact_text (overlap_data earlier later z)
    ≡ codes "{\"at\":" ++ (decimal earlier ++ (codes ",\"value\":" ++ (compact_text (number_data z) ++ (codes ",\"with\":" ++ (decimal later ++ codes "}")))))
unfolding serde_json_on_literals
overlap_written earlier later z = refl
