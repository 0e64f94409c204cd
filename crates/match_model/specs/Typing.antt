-- Which values a type has at a place that is sure, or not sure, to hold a valid value (the documentation of
-- `rustc_pattern_analysis`, place validity and empty types).
use Rattle.std.specs.Prelude.{ℕ, Bool, true, false, not, ◌&&◌, nat_eq, length, Option, Some, None, IsTrue}
use Rattle.std.specs.List.{list_all}
use mathlib.Core.Bool.{beq}
use Rattle.match_model.specs.Types.{MType, BoolType, StrType, OpaqueType, PointType, SliceType, ArrayType, MTypes, no_types, more_types}
use Rattle.match_model.specs.Declarations.{MProgram, node_types, is_marked, is_constructorless}
use Rattle.match_model.specs.Values.{MValue, Flag, Num, Text, Node, Point, Row, Thing, Later, Unseen, MValues, no_values, more_values, values_list}
use Rattle.match_model.specs.Texts.{is_scalar}
use Rattle.match_model.specs.Numbers.{has_number}
pub use Rattle.match_model.specs.Places.{some_if}

-- the type is `bool`
abbrev pub is_bool : MType → Bool
is_bool BoolType = true
is_bool _ = false

-- the type is `str`
abbrev pub is_str : MType → Bool
is_str StrType = true
is_str _ = false

-- the type is an opaque one
abbrev pub is_opaque : MType → Bool
is_opaque (OpaqueType name arguments) = true
is_opaque _ = false

-- the type behind a reference of this kind
abbrev pub type_behind : MType → (mutable : Bool) → Option MType
type_behind (PointType mutable t) m = some_if (beq mutable m) t
type_behind _ m = None

-- the type of the items of a row of this length
abbrev pub item_type : MType → (len : ℕ) → Option MType
item_type (SliceType t) len = Some t
item_type (ArrayType t n) len = some_if (nat_eq len n) t
item_type _ len = None

abbrev mutual
  -- the value is one of the type, at a place that is sure to hold a valid value or is not; behind a reference no place is
  pub is_value : MProgram → (sure : Bool) → MType → MValue → Bool
  is_value program sure t (Flag b) = is_bool t
  is_value program sure t (Num n) = has_number program.width t n
  is_value program sure t (Text scalars) = is_str t && list_all is_scalar scalars
  is_value program sure t (Node k parts) =
      elim (node_types program t k) [ None ↦ false | Some types ↦ are_values program sure types parts ]
  is_value program sure t (Point m v) =
      elim (type_behind t m) [ None ↦ false | Some inner ↦ is_value program false inner v ]
  is_value program sure t (Row items) =
      elim (item_type t (length (values_list items))) [ None ↦ false | Some item ↦ all_are_values program sure item items ]
  is_value program sure t Thing = is_opaque t
  is_value program sure t Later = is_marked program t
  is_value program sure t Unseen = not sure && is_constructorless program t

  -- the values are of the types, one by one
  pub are_values : MProgram → (sure : Bool) → MTypes → MValues → Bool
  are_values program sure no_types no_values = true
  are_values program sure (more_types t ts) (more_values v vs) = is_value program sure t v && are_values program sure ts vs
  are_values program sure _ _ = false

  -- the values are all of the type
  pub all_are_values : MProgram → (sure : Bool) → MType → MValues → Bool
  all_are_values program sure t no_values = true
  all_are_values program sure t (more_values v vs) = is_value program sure t v && all_are_values program sure t vs

-- the domain of a match: the values of `match x` for an `x` of the type; with `behind`, those of `match *x` for an `x` that
-- refers to the type
abbrev pub InDomain : MProgram → (behind : Bool) → MType → MValue → Type 0
InDomain program behind t v = IsTrue (is_value program (not behind) t v)
