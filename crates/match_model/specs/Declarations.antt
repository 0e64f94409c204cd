-- What the file and the options say: the items of the file, and the width of `usize` and `isize` (Rust Reference, Items,
-- structs and enumerations). Names are their UTF-8 bytes, which stand in the same order as their characters.
use Rattle.std.specs.Prelude.{ℕ, zero, suc, Bool, true, false, List, [], ◌∷◌, map, slice_get, Option, Some, None}
use Rattle.match_model.specs.declared.Width.{Width}
use Rattle.match_model.specs.Types.{MOwner, DeclaredItem, OptionOwner, ResultOwner, MOpaque, StringName, ParameterName, MType, NeverType, OpaqueType, TupleType, PointType, SliceType, ArrayType, NamedType, MTypes, no_types, more_types, types_of}

-- a field of a brace form
pub record MField : Type 0 where
  pub name : List ℕ
  pub type : MType

-- how a struct or variant is declared: `S`, `S(..)` or `S { .. }`
pub data MForm : Type 0 where
  UnitForm : MForm
  TupleForm : List MType → MForm
  BraceForm : List MField → MForm

-- a variant of an enum, or the one variant of a struct
pub record MVariant : Type 0 where
  pub name : List ℕ
  pub form : MForm

-- an item of the file; `marked` says that the enum is `#[non_exhaustive]`
pub data MItem : Type 0 where
  StructItem : MVariant → MItem
  EnumItem : (name : List ℕ) → (marked : Bool) → List MVariant → MItem
  OtherItem : MItem

-- what the file and the options say
pub record MProgram : Type 0 where
  pub items : List MItem
  pub width : Width

-- the types of the fields of a form, in order of declaration
abbrev pub form_types : MForm → MTypes
form_types UnitForm = no_types
form_types (TupleForm types) = types_of types
form_types (BraceForm fields) = types_of (map (λ f. f.type) fields)

-- the field types of a variant, where there is one
abbrev pub variant_types : Option MVariant → Option MTypes
variant_types (Some v) = Some (form_types v.form)
variant_types None = None

-- the variants of an item, in order of declaration; a struct has one
abbrev pub item_variants : Option MItem → List MVariant
item_variants (Some (StructItem v)) = v ∷ []
item_variants (Some (EnumItem name marked variants)) = variants
item_variants (Some OtherItem) = []
item_variants None = []

-- the field types of the item's variant with this number
abbrev pub item_types : Option MItem → (variant : ℕ) → Option MTypes
item_types item k = variant_types (slice_get (item_variants item) k)

-- the argument with this number; a type without it has an opaque one there
abbrev pub argument : MTypes → (number : ℕ) → MType
argument no_types n = OpaqueType StringName no_types
argument (more_types t ts) zero = t
argument (more_types t ts) (suc n) = argument ts n

-- the argument that a parameter stands for, or the opaque type of another name
abbrev pub opaque_or : (arguments : MTypes) → MOpaque → MTypes → MType
opaque_or arguments (ParameterName n) ts = argument arguments n
opaque_or arguments name ts = OpaqueType name ts

abbrev mutual
  -- the written type, with these arguments in the place of its parameters
  pub filled : (arguments : MTypes) → MType → MType
  filled arguments (OpaqueType name ts) = opaque_or arguments name (filled_all arguments ts)
  filled arguments (TupleType ts) = TupleType (filled_all arguments ts)
  filled arguments (PointType mutable t) = PointType mutable (filled arguments t)
  filled arguments (SliceType t) = SliceType (filled arguments t)
  filled arguments (ArrayType t n) = ArrayType (filled arguments t) n
  filled arguments (NamedType owner ts) = NamedType owner (filled_all arguments ts)
  filled arguments t = t

  -- the same of types
  pub filled_all : (arguments : MTypes) → MTypes → MTypes
  filled_all arguments no_types = no_types
  filled_all arguments (more_types t ts) = more_types (filled arguments t) (filled_all arguments ts)

-- the same of a field
abbrev pub filled_field : (arguments : MTypes) → MField → MField
filled_field arguments f = record { name = f.name; type = filled arguments f.type }

-- the same of a form
abbrev pub filled_form : (arguments : MTypes) → MForm → MForm
filled_form arguments UnitForm = UnitForm
filled_form arguments (TupleForm types) = TupleForm (map (filled arguments) types)
filled_form arguments (BraceForm fields) = BraceForm (map (filled_field arguments) fields)

-- the same of a variant
abbrev pub filled_variant : (arguments : MTypes) → MVariant → MVariant
filled_variant arguments v = record { name = v.name; form = filled_form arguments v.form }

-- a type parameter as it stands in a declaration
abbrev pub parameter : (number : ℕ) → MType
parameter n = OpaqueType (ParameterName n) no_types

-- a variant with one field, which is a parameter
abbrev pub parameter_variant : (name : List ℕ) → (number : ℕ) → MVariant
parameter_variant name n = record { name = name; form = TupleForm (parameter n ∷ []) }

-- `enum Option<T> { None, Some(T) }`
abbrev pub option_item : MItem
option_item = EnumItem (79 ∷ 112 ∷ 116 ∷ 105 ∷ 111 ∷ 110 ∷ []) false
    (record { name = 78 ∷ 111 ∷ 110 ∷ 101 ∷ []; form = UnitForm } ∷ parameter_variant (83 ∷ 111 ∷ 109 ∷ 101 ∷ []) 0 ∷ [])

-- `enum Result<T, E> { Ok(T), Err(E) }`
abbrev pub result_item : MItem
result_item = EnumItem (82 ∷ 101 ∷ 115 ∷ 117 ∷ 108 ∷ 116 ∷ []) false
    (parameter_variant (79 ∷ 107 ∷ []) 0 ∷ parameter_variant (69 ∷ 114 ∷ 114 ∷ []) 1 ∷ [])

-- what declares a named type: an item of the file, or an enum that every file has
abbrev pub declared : MProgram → MOwner → Option MItem
declared program (DeclaredItem i) = slice_get program.items i
declared program OptionOwner = Some option_item
declared program ResultOwner = Some result_item

-- the variants of a struct or enum type, in order of declaration, its arguments in the place of the parameters
abbrev pub variants_of : MProgram → MType → List MVariant
variants_of program (NamedType owner arguments) = map (filled_variant arguments) (item_variants (declared program owner))
variants_of program _ = []

-- the types of the parts of a node of the type with this variant: of a tuple, or of a struct or enum
abbrev pub node_types : MProgram → MType → (variant : ℕ) → Option MTypes
node_types program (TupleType types) zero = Some types
node_types program t k = variant_types (slice_get (variants_of program t) k)

-- the item is an enum that may get more variants later
abbrev pub item_is_marked : Option MItem → Bool
item_is_marked (Some (EnumItem name marked variants)) = marked
item_is_marked _ = false

-- the type is an enum that may get more variants later (our own choice: seen as from another crate)
abbrev pub is_marked : MProgram → MType → Bool
is_marked program (NamedType owner arguments) = item_is_marked (declared program owner)
is_marked program _ = false

-- the item is an enum without variants that gets none later
abbrev pub item_is_bare : Option MItem → Bool
item_is_bare (Some (EnumItem name false [])) = true
item_is_bare _ = false

-- the type has no constructors: `!`, or an enum without variants that gets none later
abbrev pub is_constructorless : MProgram → MType → Bool
is_constructorless program NeverType = true
is_constructorless program (NamedType owner arguments) = item_is_bare (declared program owner)
is_constructorless program _ = false
