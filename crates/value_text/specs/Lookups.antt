-- What the code looks up on the way.
use Rattle.std.specs.Prelude.{◌≡◌, ℕ, Bool, true, false, List, [], Option, Some, None, map, slice_get, option_map}
use Rattle.match_model.specs.Types.{DeclaredItem, MType, CharType, IntType, TupleType, NamedType, MTypes, no_types, types_list}
use Rattle.match_model.specs.Declarations.{MField, MForm, UnitForm, TupleForm, BraceForm, MVariant, StructItem, MProgram, node_types}
use Rattle.match_model.specs.Values.{MValue}
use Rattle.number_kinds.specs.declared.kinds.NumberKind.{NumberKind}
use Rattle.number_kinds.specs.declared.kinds.NumberKind.TheVariants as numbers
use Rattle.tree_eval.specs.declared.value.Value.{Value}
use Rattle.tree_eval.specs.Views.{plain_value}
use Rattle.type_names.specs.declared.meanings.FormKind.{FormKind}
use Rattle.type_names.specs.declared.meanings.FormKind.TheVariants as kinds
use Rattle.type_table.specs.Tables.{type_variant}

-- the type is a tuple
abbrev pub is_tuple : MType → Bool
is_tuple (TupleType ts) = true
is_tuple _ = false

-- the kind of numbers that a type has
abbrev pub number_kind : MType → Option NumberKind
number_kind CharType = Some numbers.Char
number_kind (IntType kind) = Some (numbers.Int kind)
number_kind _ = None

-- the way in which a form is declared
abbrev pub kind_of_form : MForm → FormKind
kind_of_form UnitForm = kinds.Unit
kind_of_form (TupleForm types) = kinds.Tuple
kind_of_form (BraceForm fields) = kinds.Brace

-- the same of a variant that may be there
abbrev pub kind_there : Option MVariant → Option FormKind
kind_there o = option_map (λ v. kind_of_form v.form) o

-- the number, with the way in which the type's variant of this number is declared
abbrev pub kind_numbered : MProgram → MType → Option ℕ → Option (ℕ × FormKind)
kind_numbered program t None = None
kind_numbered program t (Some k) = option_map (λ kind. (k, kind)) (kind_there (type_variant program t k))

-- the number of what is declared without brackets
abbrev pub if_unit : Option (ℕ × FormKind) → Option ℕ
if_unit None = None
if_unit (Some (k, kinds.Unit)) = Some k
if_unit (Some (k, kinds.Tuple)) = None
if_unit (Some (k, kinds.Brace)) = None

-- the number of what is declared with a list of parts
abbrev pub if_tuple : Option (ℕ × FormKind) → Option ℕ
if_tuple None = None
if_tuple (Some (k, kinds.Unit)) = None
if_tuple (Some (k, kinds.Tuple)) = Some k
if_tuple (Some (k, kinds.Brace)) = None

-- the number of what is declared with named fields
abbrev pub if_brace : Option (ℕ × FormKind) → Option ℕ
if_brace None = None
if_brace (Some (k, kinds.Unit)) = None
if_brace (Some (k, kinds.Tuple)) = None
if_brace (Some (k, kinds.Brace)) = Some k

-- the types that may be there
abbrev pub types_there : Option MTypes → List MType
types_there None = []
types_there (Some ts) = types_list ts

-- the types of the parts of a variant of the type, a tuple's being 0
abbrev pub parts_there : MProgram → MType → (variant : ℕ) → List MType
parts_there program t k = types_there (node_types program t k)

-- the fields of a brace form; another form has none with names
abbrev pub fields_of_form : MForm → List MField
fields_of_form UnitForm = []
fields_of_form (TupleForm types) = []
fields_of_form (BraceForm fields) = fields

-- the same of a variant that may be there
abbrev pub brace_fields : Option MVariant → List MField
brace_fields None = []
brace_fields (Some v) = fields_of_form v.form

-- the fields of a variant of the type
abbrev pub fields_there : MProgram → MType → (variant : ℕ) → List MField
fields_there program t k = brace_fields (type_variant program t k)

-- values as the definitions have them
abbrev pub plain_values : List Value → List MValue
plain_values vs = map plain_value vs

-- the same of values with their numbers
abbrev pub plain_numbered : List (ℕ × Value) → List (ℕ × MValue)
plain_numbered gs = map (λ g. (g.0, plain_value g.1)) gs

-- the type is a struct of the program's
abbrev pub IsDeclaredStruct : MProgram → MType → Type 0
IsDeclaredStruct program t =
    (i : ℕ) × (v : MVariant) × (t ≡ NamedType (DeclaredItem i) no_types) × (slice_get program.items i ≡ Some (StructItem v))

-- the type's variant of this number is declared with named fields
abbrev pub IsBrace : MProgram → MType → (variant : ℕ) → Type 0
IsBrace program t k = kind_there (type_variant program t k) ≡ Some kinds.Brace
