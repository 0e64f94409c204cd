-- What the paths of written values name at a type (the Rust Reference, Struct expressions and Enumerations; that the expected
-- type decides is our own choice).
use Rattle.std.specs.Prelude.{◌≡◌, ℕ, List, codes, slice_get, position, option_map, Option, Some, None}
use Rattle.std.specs.Str.{bytes_eq}
use Rattle.match_model.specs.declared.Width.{Width}
use Rattle.match_model.specs.Types.{MOwner, DeclaredItem, OptionOwner, ResultOwner, MType}
use Rattle.match_model.specs.Declarations.{MField, MForm, UnitForm, TupleForm, BraceForm, MVariant, MProgram, variants_of}
use Rattle.match_model.specs.Places.{found_if}
use Rattle.decl_syntax.specs.Items.{ItemTree}
use Rattle.type_names.specs.Meanings.{is_name}
use Rattle.type_table.specs.declared.table.TypeTable.{TypeTable}
use Rattle.type_table.specs.Lookups.{variant_named}
use Rattle.type_table.specs.Readers.{type_owner, enum_owner, item_name}
use Rattle.type_table.specs.Tables.{IsTableOf, type_variant}
use Rattle.witness_text.specs.Trees.{NameTree, PlainName, VariantName}

-- the name of an enum by who declares it
abbrev pub owner_text : MProgram → Option MOwner → Option (List ℕ)
owner_text program (Some (DeclaredItem i)) = item_name (slice_get program.items i)
owner_text program (Some OptionOwner) = Some (codes "Option")
owner_text program (Some ResultOwner) = Some (codes "Result")
owner_text program None = None

-- the name of the enum that the type is; a struct is none
abbrev pub enum_name : MProgram → MType → Option (List ℕ)
enum_name program t = owner_text program (enum_owner program (type_owner t))

-- the number of the struct or variant of the type that a path names: the last name is its own, and one before it the
-- enum's
abbrev pub path_number : MProgram → MType → NameTree → Option ℕ
path_number program t (PlainName name) = variant_named (variants_of program t) name
path_number program t (VariantName owner name) =
    found_if (is_name owner (enum_name program t)) (variant_named (variants_of program t) name)

-- the type's struct or variant of the number that may be there: the number and the form
abbrev pub form_with : MProgram → MType → Option ℕ → Option (ℕ × MForm)
form_with program t None = None
form_with program t (Some k) = option_map (λ v. (k, v.form)) (type_variant program t k)

-- the struct or variant of the type that a path names: its number and its form
abbrev pub form_named : MProgram → MType → NameTree → Option (ℕ × MForm)
form_named program t path = form_with program t (path_number program t path)

-- its number, if it is declared without brackets
abbrev pub unit_of : Option (ℕ × MForm) → Option ℕ
unit_of None = None
unit_of (Some (k, UnitForm)) = Some k
unit_of (Some (k, TupleForm types)) = None
unit_of (Some (k, BraceForm fields)) = None

-- its number and the types of its parts, if it is declared with a list of them
abbrev pub tuple_of : Option (ℕ × MForm) → Option (ℕ × List MType)
tuple_of None = None
tuple_of (Some (k, UnitForm)) = None
tuple_of (Some (k, TupleForm types)) = Some (k, types)
tuple_of (Some (k, BraceForm fields)) = None

-- its number and its fields, if it is declared with named ones
abbrev pub brace_of : Option (ℕ × MForm) → Option (ℕ × List MField)
brace_of None = None
brace_of (Some (k, UnitForm)) = None
brace_of (Some (k, TupleForm types)) = None
brace_of (Some (k, BraceForm fields)) = Some (k, fields)

-- a field with its number
abbrev pub field_numbered : List MField → Option ℕ → Option (ℕ × MType)
field_numbered fields None = None
field_numbered fields (Some i) = option_map (λ f. (i, f.type)) (slice_get fields i)

-- the number and the type of the first field of this name
abbrev pub field_found : List MField → (name : List ℕ) → Option (ℕ × MType)
field_found fields name = field_numbered fields (position (λ f. bytes_eq name f.name) fields)

-- the table is that of some file
abbrev pub IsOfFile : TypeTable → Type 0
IsOfFile table = (items : List ItemTree) × (width : Width) × IsTableOf items width table
