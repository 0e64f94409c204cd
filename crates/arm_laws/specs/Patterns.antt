-- No meaning: the pattern that the text of a witness spells, whatever its offsets are.
use Rattle.std.specs.Prelude.{ℕ, ℤ, pos, negsuc, suc, Bool, true, false, List, [], ◌∷◌, Option, Some, None}
use Rattle.std.specs.Prelude.{encode_utf8_all, if◌then◌else◌}
use Rattle.match_model.specs.declared.IntKind.{IntKind}
use Rattle.match_model.specs.Numbers.{MEnd, Free, At, MRange, has_one_number}
use Rattle.decl_syntax.specs.Patterns.{PathTree, PatternTree, Shape, PatternTrees, none, more, FieldTrees, no_field}
use Rattle.decl_syntax.specs.Patterns.{and_field, LitTree, Flag, Char, Int, Str}
use Rattle.decl_syntax.specs.Patterns as patterns
use Rattle.witness_text.specs.Arms.{is_one_char}
use Rattle.witness_text.specs.Texts.{text_of}
use Rattle.witness_text.specs.Trees.{NameTree, PlainName, VariantName, WitnessTree, OfFlag, OfInts, OfChars, OfTuple}
use Rattle.witness_text.specs.Trees.{OfUnitForm, OfTupleForm, OfBraceForm, OfPoint, OfRow, WitnessTrees, no_trees}
use Rattle.witness_text.specs.Trees.{more_trees}
use Rattle.witness_text.specs.Trees as trees
use Rattle.arm_laws.specs.Takes.{range_taken}

-- the literal of a number
abbrev pub number_literal : ℤ → LitTree
number_literal (pos n) = Int false (Some n) []
number_literal (negsuc n) = Int true (Some (suc n)) []

-- that of an end, where it is one
abbrev pub end_literal : MEnd → Option LitTree
end_literal Free = None
end_literal (At z) = Some (number_literal z)

-- that of a character
abbrev pub char_end : Option ℕ → Option LitTree
char_end None = None
char_end (Some c) = Some (Char c)

-- a range of these ends; one that is open above is not closed, and one that is open on both sides is `_`
abbrev pub range_shape : (low high : Option LitTree) → Shape
range_shape None None = patterns.Wild
range_shape (Some low) None = patterns.Range (Some low) None false
range_shape low (Some high) = patterns.Range low (Some high) true

-- the path of a form
abbrev pub path_of : NameTree → PathTree
path_of (PlainName name) = record { names = name ∷ []; plain = true }
path_of (VariantName owner name) = record { names = owner ∷ name ∷ []; plain = true }

-- the form alone
abbrev pub unit_shape : NameTree → Shape
unit_shape (PlainName name) = patterns.Name name
unit_shape (VariantName owner name) = patterns.Path (path_of (VariantName owner name))

-- both lists
abbrev pub and_more : PatternTrees → PatternTrees → PatternTrees
and_more none qs = qs
and_more (more p ps) qs = more p (and_more ps qs)

-- a pattern without a place
abbrev pub unplaced : Shape → PatternTree
unplaced shape = patterns.At 0 shape

-- `..` where it stands
abbrev pub rest_shapes : (longer : Bool) → PatternTrees
rest_shapes true = more (unplaced patterns.Rest) none
rest_shapes false = none

-- several numbers or characters, which stand in parentheses
abbrev pub grouped_shape : Shape → Shape
grouped_shape shape = patterns.Group (unplaced shape)

-- the numbers that are written for a range of an integer type: one number stands for itself
abbrev pub range_written : IntKind → MRange → MRange
range_written kind r = if has_one_number r then r else range_taken kind r

-- one number
abbrev pub one_number : MEnd → Shape
one_number Free = patterns.Wild
one_number (At z) = patterns.Literal (number_literal z)

-- numbers of an integer type, one or several
abbrev pub ints_shape : (one : Bool) → MRange → Shape
ints_shape true r = one_number r.low
ints_shape false r = grouped_shape (range_shape (end_literal r.low) (end_literal r.high))

-- characters, one or several
abbrev pub chars_shape : (one : Bool) → (low high : Option ℕ) → Shape
chars_shape true (Some c) high = patterns.Literal (Char c)
chars_shape one low high = grouped_shape (range_shape (char_end low) (char_end high))

-- a reference: a text behind `&` is its literal
abbrev pub point_shape : (mutable : Bool) → Option (List ℕ) → Shape → Shape
point_shape false (Some t) inner = patterns.Literal (Str (encode_utf8_all t))
point_shape mutable literal inner = patterns.Point mutable (unplaced inner)

abbrev mutual
  -- the pattern of the witness, every offset being 0
  pub arm_shape : WitnessTree → Shape
  arm_shape (OfFlag b) = patterns.Literal (Flag b)
  arm_shape (OfInts kind r) = ints_shape (has_one_number r) (range_written kind r)
  arm_shape (OfChars low high) = chars_shape (is_one_char low high) low high
  arm_shape (OfTuple ws) = patterns.Tuple (arm_shapes ws)
  arm_shape (OfUnitForm name) = unit_shape name
  arm_shape (OfTupleForm name ws) = patterns.TupleForm (path_of name) (arm_shapes ws)
  arm_shape (OfBraceForm name fs) = patterns.Brace (path_of name) (arm_fields fs) false
  arm_shape (OfPoint mutable w) = point_shape mutable (text_of w) (arm_shape w)
  arm_shape (OfRow front longer back) =
      patterns.Slice (and_more (arm_shapes front) (and_more (rest_shapes longer) (arm_shapes back)))
  arm_shape _ = patterns.Wild

  pub arm_shapes : WitnessTrees → PatternTrees
  arm_shapes no_trees = none
  arm_shapes (more_trees w ws) = more (unplaced (arm_shape w)) (arm_shapes ws)

  pub arm_fields : trees.FieldTrees → FieldTrees
  arm_fields trees.no_fields = no_field
  arm_fields (trees.more_fields name w fs) = and_field name false [] (unplaced (arm_shape w)) (arm_fields fs)

abbrev mutual
  -- the pattern with every offset 0
  pub without_places : PatternTree → PatternTree
  without_places (patterns.At from shape) = unplaced (shape_without shape)

  pub shape_without : Shape → Shape
  shape_without (patterns.BindAs name by_ref mutable p) = patterns.BindAs name by_ref mutable (without_places p)
  shape_without (patterns.TupleForm path ps) = patterns.TupleForm path (all_without ps)
  shape_without (patterns.Brace path fs rest) = patterns.Brace path (fields_without fs) rest
  shape_without (patterns.Tuple ps) = patterns.Tuple (all_without ps)
  shape_without (patterns.Group p) = patterns.Group (without_places p)
  shape_without (patterns.Slice ps) = patterns.Slice (all_without ps)
  shape_without (patterns.Point mutable p) = patterns.Point mutable (without_places p)
  shape_without (patterns.Or ps) = patterns.Or (all_without ps)
  shape_without shape = shape

  pub all_without : PatternTrees → PatternTrees
  all_without none = none
  all_without (more p ps) = more (without_places p) (all_without ps)

  pub fields_without : FieldTrees → FieldTrees
  fields_without no_field = no_field
  fields_without (and_field name short attrs p fs) =
      and_field name short attrs (without_places p) (fields_without fs)
