-- Which witnesses have a pattern within the limits of the grammar: 64 levels, and 256 parts in a list (our own choice).
use Rattle.std.specs.Prelude.{ℕ, zero, suc, ◌+◌, Bool, true, false, not, ◌&&◌, ◌||◌, nat_eq, nat_le, List, Option, cond, is_some}
use Rattle.match_model.specs.Numbers.{has_one_number}
use Rattle.decl_syntax.specs.Widths.{most_parts}
use Rattle.witness_text.specs.Texts.{text_of}
use Rattle.witness_text.specs.Trees.{WitnessTree, OfInts, OfChars, OfTuple, OfTupleForm, OfBraceForm, OfPoint, OfRow, WitnessTrees, no_trees, more_trees, FieldTrees, no_fields, more_fields}
use Rattle.witness_text.specs.Arms.{is_one_char}

-- how many witnesses a list has, and how many fields
abbrev pub tree_count : WitnessTrees → ℕ
tree_count no_trees = 0
tree_count (more_trees w ws) = suc (tree_count ws)

abbrev pub field_count : FieldTrees → ℕ
field_count no_fields = 0
field_count (more_fields name w fs) = suc (field_count fs)

-- how many items `..` is
abbrev pub rest_count : (longer : Bool) → ℕ
rest_count longer = cond longer 1 0

-- so many levels are left below for a `..`, where one stands there
abbrev pub rest_fits : ℕ → (longer : Bool) → Bool
rest_fits n longer = not (longer && nat_eq n 0)

-- so many levels are left below for the range in its parentheses, where there is one
abbrev pub range_fits : ℕ → (one : Bool) → Bool
range_fits n one = one || not (nat_eq n 0)

-- so many levels are left below for what a reference points to; a text is written with its reference as one literal
abbrev pub point_fits : (mutable : Bool) → Option (List ℕ) → (below : Bool) → Bool
point_fits mutable literal below = (not mutable && is_some literal) || below

abbrev mutual
  -- the pattern of an arm for the witness has at most so many levels, and no list in it more than 256 parts, `..`
  -- counted
  pub arm_fits : ℕ → WitnessTree → Bool
  arm_fits zero w = false
  arm_fits (suc n) (OfInts kind r) = range_fits n (has_one_number r)
  arm_fits (suc n) (OfChars low high) = range_fits n (is_one_char low high)
  arm_fits (suc n) (OfTuple ws) = nat_le (tree_count ws) most_parts && parts_fit n ws
  arm_fits (suc n) (OfTupleForm name ws) = nat_le (tree_count ws) most_parts && parts_fit n ws
  arm_fits (suc n) (OfBraceForm name fs) = nat_le (field_count fs) most_parts && fields_fit n fs
  arm_fits (suc n) (OfPoint mutable w) = point_fits mutable (text_of w) (arm_fits n w)
  arm_fits (suc n) (OfRow front longer back) =
      nat_le (tree_count front + (rest_count longer + tree_count back)) most_parts
      && (rest_fits n longer && (parts_fit n front && parts_fit n back))
  arm_fits (suc n) _ = true

  -- the same of each witness of a list
  pub parts_fit : ℕ → WitnessTrees → Bool
  parts_fit n no_trees = true
  parts_fit n (more_trees w ws) = arm_fits n w && parts_fit n ws

  -- the same of the witness of each field
  pub fields_fit : ℕ → FieldTrees → Bool
  fields_fit n no_fields = true
  fields_fit n (more_fields name w fs) = arm_fits n w && fields_fit n fs

-- the greatest number of levels of a pattern
abbrev pub most_levels : ℕ
most_levels = 64
