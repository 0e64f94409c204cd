-- The generated file, as bytes: for each number an enum and a function that matches on it.
use Rattle.std.specs.Prelude.{ℕ, ◌+◌, ◌%◌, List, [], ◌∷◌, ◌++◌, map, codes, if◌then◌else◌, nat_eq}
use Rattle.std.specs.List.{flat_map, range_with_len}
use Rattle.std.specs.Fmt.{decimal}

-- the unit variant of this number within an enum: V0, V1 and so on
abbrev pub unit_variant : ℕ → List ℕ
unit_variant number = codes "V" ++ decimal number

-- the numbers of the unit variants of an enum: from 0 on, and one to five of them
abbrev pub unit_numbers : (item : ℕ) → List ℕ
unit_numbers item = range_with_len 0 (item % 5 + 1)

-- a unit variant as the enum lists it
abbrev pub listed_variant : ℕ → List ℕ
listed_variant number = unit_variant number ++ codes ", "

-- what stands in front of an enum's variants
abbrev pub enum_head : (item : ℕ) → List ℕ
enum_head item = codes "enum E" ++ decimal item ++ codes " { "

-- the line of an enum: its unit variants, and behind them W, which has two fields
abbrev pub enum_line : (item : ℕ) → List ℕ
enum_line item = enum_head item ++ flat_map listed_variant (unit_numbers item) ++ codes "W(u8, bool) }\n"

-- only where the item's number is even: with this arm nothing is missing
abbrev pub even_patterns : (item : ℕ) → List (List ℕ)
even_patterns item = if nat_eq (item % 2) 0 then codes "W(_, false)" ∷ [] else []

-- only where the item's number is a multiple of three: the first variant again, to which nothing comes any more
abbrev pub third_patterns : (item : ℕ) → List (List ℕ)
third_patterns item = if nat_eq (item % 3) 0 then codes "V0" ∷ [] else []

-- the patterns behind those of the unit variants; the ranges of the first two have the number 100 in common
abbrev pub field_patterns : (item : ℕ) → List (List ℕ)
field_patterns item =
    codes "W(0..=100, true)" ∷ codes "W(100..=255, _)" ∷ (even_patterns item ++ third_patterns item)

-- the patterns of the function of this number in their order, each without the enum's name in front
abbrev pub patterns_of : (item : ℕ) → List (List ℕ)
patterns_of item = map unit_variant (unit_numbers item) ++ field_patterns item

-- an arm: its pattern with the enum's name, and behind the arrow the arm's number
abbrev pub arm_text : (item arm : ℕ) → (pattern : List ℕ) → List ℕ
arm_text item arm pattern =
    codes "E" ++ decimal item ++ codes "::" ++ pattern ++ codes " => " ++ decimal arm ++ codes ", "

-- arms of these patterns, numbered from this number on
abbrev pub arms_from : (item arm : ℕ) → (patterns : List (List ℕ)) → List ℕ
arms_from item arm [] = []
arms_from item arm (p ∷ ps) = arm_text item arm p ++ arms_from item (arm + 1) ps

-- what stands in front of a function's arms
abbrev pub function_head : (item : ℕ) → List ℕ
function_head item = codes "fn f" ++ decimal item ++ codes "(x: &E" ++ decimal item ++ codes ") { match x { "

-- the line of a function
abbrev pub function_line : (item : ℕ) → List ℕ
function_line item = function_head item ++ arms_from item 0 (patterns_of item) ++ codes "} }\n"

-- the two lines of an item
abbrev pub item_text : (item : ℕ) → List ℕ
item_text item = enum_line item ++ function_line item

-- the file of n items, numbered from 0
abbrev pub demo_file : (n : ℕ) → List ℕ
demo_file n = flat_map item_text (range_with_len 0 n)
