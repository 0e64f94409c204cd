-- Which types written types stand for, and what a file declares.
use Rattle.std.specs.Prelude.{ℕ, Bool, true, false, ◌&&◌, ◌||◌, List, [], map, codes, length, nat_eq, nat_le, Option, Some, None, if◌then◌else◌}
use Rattle.std.specs.Str.{bytes_eq}
use Rattle.std.specs.List.{list_any}
use Rattle.match_model.specs.declared.Width.{Width}
use Rattle.match_model.specs.Types.{DeclaredItem, OptionOwner, ResultOwner, StringName, MType, NeverType, OpaqueType, TupleType, PointType, SliceType, ArrayType, NamedType, MTypes, no_types, more_types, types_list}
use Rattle.match_model.specs.Typing.{is_str}
use Rattle.match_model.specs.Declarations.{MField, MForm, UnitForm, TupleForm, BraceForm, MVariant, MItem, StructItem, EnumItem, OtherItem, MProgram}
use Rattle.decl_syntax.specs.Types.{TypeTree, TypeTrees, none, more}
use Rattle.decl_syntax.specs.Types as written
use Rattle.decl_syntax.specs.Patterns.{AttrTree}
use Rattle.decl_syntax.specs.Items.{FieldItem, FormTree, Unit, VariantTree, KindTree, Enum, Struct, ItemTree}
use Rattle.decl_syntax.specs.Items as forms
use Rattle.type_names.specs.Meanings.{Meaning, ItemName, BaseName, OpaqueName, OptionName, ResultName, Means, means, argument_count, arguments_sized}

-- what a written type that breaks a rule stands for: an opaque type
abbrev pub broken_type : MType
broken_type = OpaqueType StringName no_types

-- the length of an array is one: at most 4,294,967,295, with no suffix or `usize`
abbrev pub is_length : Option ℕ → (suffix : List ℕ) → Bool
is_length None suffix = false
is_length (Some n) suffix = nat_le n 4294967295 && (nat_eq (length suffix) 0 || bytes_eq suffix (codes "usize"))

-- the array of these items
abbrev pub array_type : MType → Option ℕ → (suffix : List ℕ) → MType
array_type item None suffix = broken_type
array_type item (Some n) suffix = if is_length (Some n) suffix then ArrayType item n else broken_type

-- a type without arguments; `str` only where no size is needed
abbrev pub base_type : (sized : Bool) → MType → MType
base_type sized t = if sized && is_str t then broken_type else t

-- what the meaning of a name makes of its arguments
abbrev pub meant_type : (sized : Bool) → Meaning → MTypes → MType
meant_type sized (ItemName i) arguments = NamedType (DeclaredItem i) arguments
meant_type sized (BaseName t) arguments = base_type sized t
meant_type sized (OpaqueName o) arguments = OpaqueType o arguments
meant_type sized OptionName arguments = NamedType OptionOwner arguments
meant_type sized ResultName arguments = NamedType ResultOwner arguments

-- the type of that name with these arguments, if their number is right
abbrev pub named_type : (sized : Bool) → Option Meaning → MTypes → MType
named_type sized None arguments = broken_type
named_type sized (Some m) arguments =
    if nat_eq (length (types_list arguments)) (argument_count m) then meant_type sized m arguments else broken_type

-- the slice of these items, only where no size is needed
abbrev pub slice_type : (sized : Bool) → MType → MType
slice_type true item = broken_type
slice_type false item = SliceType item

abbrev mutual
  -- the type that a written one stands for, where a size is needed or is not; one that breaks a rule is opaque
  pub type_of : Means → (sized : Bool) → TypeTree → MType
  type_of names sized written.Never = NeverType
  type_of names sized (written.Tuple ts) = TupleType (types_of names true ts)
  type_of names sized (written.Point mutable t) = PointType mutable (type_of names false t)
  type_of names sized (written.Slice t) = slice_type sized (type_of names true t)
  type_of names sized (written.Array t len suffix) = array_type (type_of names true t) len suffix
  type_of names sized (written.Named name ts) = named_type sized (names name) (types_of names (arguments_sized (names name)) ts)

  -- the types that written ones stand for
  pub types_of : Means → (sized : Bool) → TypeTrees → MTypes
  types_of names sized none = no_types
  types_of names sized (more t ts) = more_types (type_of names sized t) (types_of names sized ts)

-- the name of a field of a brace form
abbrev pub field_name : Option (List ℕ) → List ℕ
field_name (Some name) = name
field_name None = []

-- what a written field declares
abbrev pub field_of : Means → FieldItem → MField
field_of names f = record { name = field_name f.name; type = type_of names true f.type }

-- what a written form declares
abbrev pub form_of : Means → FormTree → MForm
form_of names Unit = UnitForm
form_of names (forms.Tuple fields) = TupleForm (map (λ f. type_of names true f.type) fields)
form_of names (forms.Brace fields) = BraceForm (map (field_of names) fields)

-- what a written variant declares
abbrev pub variant_of : Means → VariantTree → MVariant
variant_of names v = record { name = v.name; form = form_of names v.form }

-- the attribute is `non_exhaustive`
abbrev pub is_mark : AttrTree → Bool
is_mark a = bytes_eq a.word (codes "non_exhaustive")

-- one of the attributes is `non_exhaustive`
abbrev pub is_marked_by : List AttrTree → Bool
is_marked_by attrs = list_any is_mark attrs

-- what a written item declares
abbrev pub kind_of : Means → (marked : Bool) → KindTree → MItem
kind_of names marked (Enum name variants) = EnumItem name marked (map (variant_of names) variants)
kind_of names marked (Struct name form) = StructItem (record { name = name; form = form_of names form })
kind_of names marked _ = OtherItem

-- the same, with its mark
abbrev pub item_of : Means → ItemTree → MItem
item_of names i = kind_of names (is_marked_by i.attrs) i.kind

-- what a file and the width say
abbrev pub program_of : List ItemTree → Width → MProgram
program_of items width = record { items = map (item_of (means items)) items; width = width }
