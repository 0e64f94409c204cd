-- Values with the names by which they are written, as a program declares them (the Rust Reference, Literal expressions
-- and Struct expressions; that a suffix and an enum's name that need not stand are left out is our own choice).
use Rattle.std.specs.Prelude.{ℕ, zero, suc, ℤ, pos, negsuc, Bool, true, false, List, [], ◌∷◌, slice_get, Option, Some, None, encode_utf8_all}
use Rattle.match_model.specs.Declarations.{MField, MForm, UnitForm, TupleForm, BraceForm, MVariant, MProgram, variants_of, node_types}
use Rattle.match_model.specs.Numbers.{At}
use Rattle.match_model.specs.RustTypes.{inner_type}
use Rattle.match_model.specs.Types.{MType, CharType, TupleType}
use Rattle.match_model.specs.Values.{MValue, Flag, Num, Text, Node, Point, Row, Thing, Later, Unseen, MValues, no_values, more_values}
use Rattle.value_syntax.specs.Trees.{WrittenTree, WrittenFlag, WrittenChar, WrittenInt, WrittenStr, WrittenText, WrittenOpaque, WrittenLater, WrittenUnseen, WrittenPoint, WrittenTuple, WrittenRow, WrittenUnitForm, WrittenTupleForm, WrittenBraceForm, values_from, FieldTree, fields_from}
use Rattle.witness_text.specs.Trees.{NameTree}
use Rattle.witness_names.specs.Named.{char_end, form_name, types_there}

-- an integer without a suffix
abbrev pub written_integer : ℤ → WrittenTree
written_integer (pos n) = WrittenInt false n []
written_integer (negsuc n) = WrittenInt true (suc n) []

-- the character, if there is one, or else the integer
abbrev pub character_or : ℤ → Option ℕ → WrittenTree
character_or n (Some c) = WrittenChar c
character_or n None = written_integer n

-- a number of the type: a character by its scalar value, or an integer
abbrev pub written_number : MType → ℤ → WrittenTree
written_number CharType n = character_or n (char_end (At n))
written_number _ n = written_integer n

-- a reference; a shared one to a text is the literal alone
abbrev pub written_point : (mutable : Bool) → WrittenTree → WrittenTree
written_point false (WrittenText text) = WrittenStr text
written_point mutable w = WrittenPoint mutable w

-- the parts, each with the name of its field, in the order in which the fields are declared
abbrev pub written_fields : List MField → List WrittenTree → List FieldTree
written_fields [] parts = []
written_fields (f ∷ fs) [] = []
written_fields (f ∷ fs) (w ∷ ws) = record { name = f.name; value = w } ∷ written_fields fs ws

-- a form of this name with these parts
abbrev pub written_form : NameTree → MForm → List WrittenTree → WrittenTree
written_form name UnitForm parts = WrittenUnitForm name
written_form name (TupleForm types) parts = WrittenTupleForm name (values_from parts)
written_form name (BraceForm fields) parts = WrittenBraceForm name (fields_from (written_fields fields parts))

-- a variant of the type, if there is one, with these parts
abbrev pub written_variant : MProgram → MType → Option MVariant → List WrittenTree → WrittenTree
written_variant program t None parts = WrittenUnseen
written_variant program t (Some v) parts = written_form (form_name program t v.name) v.form parts

-- a node of the type with these parts: a tuple, or the struct or variant with this number
abbrev pub written_node : MProgram → MType → (variant : ℕ) → List WrittenTree → WrittenTree
written_node program (TupleType types) zero parts = WrittenTuple (values_from parts)
written_node program t k parts = written_variant program t (slice_get (variants_of program t) k) parts

abbrev mutual
  -- the value of the type as it is written; where it is none of the type, a variant that the type does not have is
  -- `?unseen`, a variant has as many parts as there are both types and values, a number of `char` that is no character
  -- is an integer, and what is behind a reference or in a row that the type lacks is written as of the type itself
  pub written_value : MProgram → MType → MValue → WrittenTree
  written_value program t (Flag b) = WrittenFlag b
  written_value program t (Num n) = written_number t n
  written_value program t (Text scalars) = WrittenText (encode_utf8_all scalars)
  written_value program t (Node k vs) =
      written_node program t k (written_parts program (types_there (node_types program t k)) vs)
  written_value program t (Point mutable v) = written_point mutable (written_value program (inner_type t) v)
  written_value program t (Row vs) = WrittenRow (values_from (written_items program (inner_type t) vs))
  written_value program t Thing = WrittenOpaque
  written_value program t Later = WrittenLater
  written_value program t Unseen = WrittenUnseen

  -- the values, each of its own type, as far as there are types
  pub written_parts : MProgram → List MType → MValues → List WrittenTree
  written_parts program ts no_values = []
  written_parts program [] (more_values v vs) = []
  written_parts program (t ∷ ts) (more_values v vs) = written_value program t v ∷ written_parts program ts vs

  -- the values, all of one type
  pub written_items : MProgram → MType → MValues → List WrittenTree
  written_items program t no_values = []
  written_items program t (more_values v vs) = written_value program t v ∷ written_items program t vs
