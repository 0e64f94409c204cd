-- What the context of Rust's types tells: their constructors, the number of their parts, and the types of these (Rust
-- Reference, Types; the documentation of `rustc_pattern_analysis`, constructors).
use Rattle.std.specs.Prelude.{◌≡◌, ◌<◌, ◌^◌, ℕ, suc, Bool, true, false, ◌&&◌, List, [], ◌∷◌, length, nat_eq, nat_lt, Option, Some, None, slice_get, IsTrue}
use Rattle.match_model.specs.Types.{DeclaredItem, MOpaque, StringName, F32Name, F64Name, BoxName, VecName, RcName, ArcName, ParameterName, MType, BoolType, CharType, StrType, NeverType, IntType, OpaqueType, TupleType, PointType, SliceType, ArrayType, NamedType, MTypes, no_types, more_types, types_list}
use Rattle.match_model.specs.Declarations.{MVariant, MItem, StructItem, EnumItem, OtherItem, MProgram, declared, node_types, item_types}
use Rattle.match_model.specs.Values.{MValue}
use Rattle.match_model.specs.Numbers.{MRange, numbers_of}
use Rattle.match_model.specs.Typing.{is_value}
use Rattle.match_model.specs.Constructors.{least_length, MCtor, SingleCtor, PointCtor, VariantCtor, RowCtor, MSet, SingleSet, PointSet, FlagSet, TextSet, OpaqueSet, NothingSet, VariantSet, NumberSet, RowSet}
use Rattle.match_model.specs.Contexts.{Context}

-- the set of one range of numbers or two
abbrev pub number_set : List MRange → MSet
number_set [] = NothingSet
number_set (first ∷ []) = NumberSet first None
number_set (first ∷ second ∷ _) = NumberSet first (Some second)

-- the set of an enum; without variants it has none, or later ones alone
abbrev pub enum_set : (marked : Bool) → List MVariant → MSet
enum_set false [] = NothingSet
enum_set true [] = VariantSet 0 true
enum_set marked (v ∷ vs) = VariantSet (suc (length vs)) marked

-- the constructors of a declared type, by its item
abbrev pub item_set : Option MItem → MSet
item_set (Some (StructItem v)) = SingleSet
item_set (Some (EnumItem name marked variants)) = enum_set marked variants
item_set (Some OtherItem) = NothingSet
item_set None = NothingSet

-- the constructors of a type
abbrev pub rust_set : MProgram → MType → MSet
rust_set program BoolType = FlagSet
rust_set program CharType = number_set (numbers_of program.width CharType)
rust_set program (IntType kind) = number_set (numbers_of program.width (IntType kind))
rust_set program StrType = TextSet
rust_set program NeverType = NothingSet
rust_set program (OpaqueType name arguments) = OpaqueSet
rust_set program (TupleType types) = SingleSet
rust_set program (PointType mutable t) = PointSet
rust_set program (SliceType t) = RowSet None
rust_set program (ArrayType t n) = RowSet (Some n)
rust_set program (NamedType owner arguments) = item_set (declared program owner)

-- how many types there are, none where nothing is found
abbrev pub count_of_types : Option MTypes → ℕ
count_of_types None = 0
count_of_types (Some ts) = length (types_list ts)

-- how many parts a constructor has in a type
abbrev pub rust_arity : MProgram → MCtor → MType → ℕ
rust_arity program SingleCtor t = count_of_types (node_types program t 0)
rust_arity program (VariantCtor k) t = count_of_types (node_types program t k)
rust_arity program PointCtor t = 1
rust_arity program (RowCtor s) t = least_length s
rust_arity program _ t = 0

-- the type that is there, or the other one
abbrev pub type_or : MType → Option MType → MType
type_or t None = t
type_or t (Some u) = u

-- the type of the part with this number; where there is none it is the type itself
abbrev pub part_type : MType → Option MTypes → ℕ → MType
part_type t None i = t
part_type t (Some ts) i = type_or t (slice_get (types_list ts) i)

-- the type behind a reference, or of the items of a slice or array
abbrev pub inner_type : MType → MType
inner_type (PointType mutable t) = t
inner_type (SliceType t) = t
inner_type (ArrayType t n) = t
inner_type t = t

-- the type of part `i` of a constructor in a type
abbrev pub rust_sub : MProgram → MCtor → MType → ℕ → MType
rust_sub program SingleCtor t i = part_type t (node_types program t 0) i
rust_sub program (VariantCtor k) t i = part_type t (node_types program t k) i
rust_sub program PointCtor t i = inner_type t
rust_sub program (RowCtor s) t i = inner_type t
rust_sub program _ t i = t

-- what the context of Rust's types tells
abbrev pub rust_context : MProgram → Context MType
rust_context program = record {
  set_of = rust_set program;
  arity = λ c t. rust_arity program c t;
  sub = λ c t i. rust_sub program c t i;
}

-- the values of a type, as a context has them
abbrev pub RustValue : MProgram → MType → (sure : Bool) → MValue → Type 0
RustValue program t sure v = IsTrue (is_value program sure t v)

-- how many type arguments an opaque type has
abbrev pub opaque_arguments : MOpaque → ℕ
opaque_arguments StringName = 0
opaque_arguments F32Name = 0
opaque_arguments F64Name = 0
opaque_arguments BoxName = 1
opaque_arguments VecName = 1
opaque_arguments RcName = 1
opaque_arguments ArcName = 1
opaque_arguments (ParameterName n) = 0

-- the item is a struct or an enum
abbrev pub is_declared : Option MItem → Bool
is_declared (Some (StructItem v)) = true
is_declared (Some (EnumItem name marked variants)) = true
is_declared (Some OtherItem) = false
is_declared None = false

abbrev mutual
  -- the type is one of the program's: its names are declared, and what its arguments are is asked alone, since a parameter without one
  -- is opaque; whether a place of it has a size is not asked either
  pub is_type : MProgram → MType → Bool
  is_type program (OpaqueType name arguments) =
      are_types program arguments && nat_eq (length (types_list arguments)) (opaque_arguments name)
  is_type program (TupleType types) = are_types program types && nat_lt (length (types_list types)) (2 ^ 32)
  is_type program (PointType mutable t) = is_type program t
  is_type program (SliceType t) = is_type program t
  is_type program (ArrayType t n) = is_type program t && nat_lt n (2 ^ 32)
  is_type program (NamedType owner arguments) = is_declared (declared program owner) && are_types program arguments
  is_type program _ = true

  -- the types are all the program's
  pub are_types : MProgram → MTypes → Bool
  are_types program no_types = true
  are_types program (more_types t ts) = is_type program t && are_types program ts

-- the field types of all items are types
abbrev pub FieldsAreTypes : MProgram → Type 0
FieldsAreTypes program = (i k : ℕ) (ts : MTypes) → item_types (slice_get program.items i) k ≡ Some ts → IsTrue (are_types program ts)

-- the program's declarations stand for types: the fields are types, fewer than 2^32 each, and of every declared type some instance
-- has a finite value at an unsure place (our own choice: an endless type is refused)
pub record IsSoundProgram (program : MProgram) : Type 0 where
  pub fields : FieldsAreTypes program
  pub few : (i k : ℕ) (ts : MTypes) → item_types (slice_get program.items i) k ≡ Some ts → length (types_list ts) < 2 ^ 32
  pub finite : (i : ℕ) → IsTrue (is_declared (slice_get program.items i)) →
      (arguments : MTypes) × (v : MValue) × IsTrue (is_value program false (NamedType (DeclaredItem i) arguments) v)
