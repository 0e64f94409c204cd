-- Which value of a type a written value is (the Rust Reference, Literal expressions and Struct expressions; that the expected
-- type decides, and what is written for values without literals, is our own choice).
use Rattle.std.specs.Prelude.{ℕ, pos, Bool, true, false, ◌&&◌, List, [], ◌∷◌, suc, zero, length, chars, Option, Some, None, option_map}
use Rattle.match_model.specs.declared.IntKind.TheVariants.{U8}
use Rattle.match_model.specs.Types.{MType, TupleType, types_list}
use Rattle.match_model.specs.Declarations.{MField, MProgram}
use Rattle.match_model.specs.Places.{some_if}
use Rattle.match_model.specs.Typing.{type_behind, item_type, is_value}
use Rattle.match_model.specs.Values.{MValue, Flag, Num, Text, Node, Point, Row, Thing, Later, Unseen, values_of}
use Rattle.pattern_rules.specs.Literals.{is_char, is_kind, has_suffix_type}
use Rattle.range_split.specs.Numbers.{signed}
use Rattle.value_syntax.specs.Trees.{WrittenTree, WrittenFlag, WrittenChar, WrittenByte, WrittenInt, WrittenStr, WrittenText, WrittenOpaque, WrittenLater, WrittenUnseen, WrittenPoint, WrittenTuple, WrittenRow, WrittenUnitForm, WrittenTupleForm, WrittenBraceForm, WrittenTrees, no_values, more_values, WrittenFields, no_fields, more_fields}
use Rattle.value_text.specs.Names.{form_named, unit_of, tuple_of, brace_of, field_found}
use Rattle.value_text.specs.Fields.{in_front, in_order}

-- the value, if it is one of the type
abbrev pub if_value : MProgram → (sure : Bool) → MType → MValue → Option MValue
if_value program sure t v = some_if (is_value program sure t v) v

-- the value, if a literal of this kind can be of the type and it is one of the type
abbrev pub literal_of : (of_kind : Bool) → MProgram → (sure : Bool) → MType → MValue → Option MValue
literal_of of_kind program sure t v = some_if (of_kind && is_value program sure t v) v

-- how many values are written
abbrev pub count : WrittenTrees → ℕ
count no_values = zero
count (more_values w ws) = suc (count ws)

-- the types of the parts of a tuple
abbrev pub tuple_parts : MType → Option (List MType)
tuple_parts (TupleType ts) = Some (types_list ts)
tuple_parts _ = None

-- a tuple or struct, whose variant is 0, or a variant, with these parts
abbrev pub node : (variant : ℕ) → List MValue → MValue
node k vs = Node k (values_of vs)

-- a slice or array of these items
abbrev pub row : List MValue → MValue
row vs = Row (values_of vs)

-- a value with its number, in front of those that may be there
abbrev pub numbered_front : (i : ℕ) → Option MValue → Option (List (ℕ × MValue)) → Option (List (ℕ × MValue))
numbered_front i v given = in_front (option_map (λ u. (i, u)) v) given

-- a struct or variant of these fields, where each has exactly one value
abbrev pub node_of_fields : (variant : ℕ) → List MField → Option (List (ℕ × MValue)) → Option MValue
node_of_fields k fields None = None
node_of_fields k fields (Some given) = option_map (node k) (in_order 0 (length fields) given)

abbrev mutual
  -- the value of the type that the written value is, if it is one
  pub meant : MProgram → (sure : Bool) → MType → WrittenTree → Option MValue
  meant program sure t (WrittenFlag b) = if_value program sure t (Flag b)
  meant program sure t (WrittenChar c) = literal_of (is_char t) program sure t (Num (pos c))
  meant program sure t (WrittenByte b) = literal_of (is_kind U8 t) program sure t (Num (pos b))
  meant program sure t (WrittenInt negative size suffix) =
      literal_of (has_suffix_type suffix t) program sure t (Num (signed negative size))
  meant program sure t (WrittenStr text) = if_value program sure t (Point false (Text (chars text)))
  meant program sure t (WrittenText text) = if_value program sure t (Text (chars text))
  meant program sure t WrittenOpaque = if_value program sure t Thing
  meant program sure t WrittenLater = if_value program sure t Later
  meant program sure t WrittenUnseen = if_value program sure t Unseen
  meant program sure t (WrittenPoint m w) =
      elim (type_behind t m) [ None ↦ None | Some inner ↦ option_map (Point m) (meant program false inner w) ]
  meant program sure t (WrittenTuple ws) =
      elim (tuple_parts t) [ None ↦ None | Some types ↦ option_map (node 0) (meant_parts program sure types ws) ]
  meant program sure t (WrittenRow ws) =
      elim (item_type t (count ws)) [ None ↦ None | Some item ↦ option_map row (meant_items program sure item ws) ]
  meant program sure t (WrittenUnitForm path) = option_map (λ k. node k []) (unit_of (form_named program t path))
  meant program sure t (WrittenTupleForm path ws) =
      elim (tuple_of (form_named program t path)) [ None ↦ None | Some p ↦ option_map (node p.0) (meant_parts program sure p.1 ws) ]
  meant program sure t (WrittenBraceForm path fs) =
      elim (brace_of (form_named program t path)) [ None ↦ None | Some p ↦ node_of_fields p.0 p.1 (meant_fields program sure p.1 fs) ]

  -- the values of the types, one by one
  pub meant_parts : MProgram → (sure : Bool) → List MType → WrittenTrees → Option (List MValue)
  meant_parts program sure [] no_values = Some []
  meant_parts program sure [] (more_values w ws) = None
  meant_parts program sure (t ∷ ts) no_values = None
  meant_parts program sure (t ∷ ts) (more_values w ws) = in_front (meant program sure t w) (meant_parts program sure ts ws)

  -- the values, all of one type
  pub meant_items : MProgram → (sure : Bool) → MType → WrittenTrees → Option (List MValue)
  meant_items program sure t no_values = Some []
  meant_items program sure t (more_values w ws) = in_front (meant program sure t w) (meant_items program sure t ws)

  -- the values of written fields, in the order in which they are written, each with the number of the field that it names
  pub meant_fields : MProgram → (sure : Bool) → List MField → WrittenFields → Option (List (ℕ × MValue))
  meant_fields program sure fields no_fields = Some []
  meant_fields program sure fields (more_fields name w fs) =
      elim (field_found fields name) [ None ↦ None | Some f ↦ numbered_front f.0 (meant program sure f.1 w) (meant_fields program sure fields fs) ]
