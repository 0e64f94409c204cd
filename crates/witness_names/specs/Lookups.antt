-- What the code looks up of a type: how its variants are written, with their names, and what it is made of.
use Rattle.std.specs.Prelude.{◌≡◌, ℕ, Bool, true, false, List, [], Option, Some, None, codes, option_map, nat_lt, slice_get}
use Rattle.match_model.specs.Types.{MOwner, DeclaredItem, OptionOwner, ResultOwner, MType, TupleType, PointType, SliceType, ArrayType, NamedType, no_types}
use Rattle.match_model.specs.Declarations.{MField, MForm, UnitForm, TupleForm, BraceForm, MVariant, StructItem, MProgram, node_types}
use Rattle.match_model.specs.OfType.{entered, type_entered}
use Rattle.match_model.specs.Places.{MStep}
use Rattle.match_model.specs.RustTypes.{rust_context, rust_set}
use Rattle.match_model.specs.Values.{MValues}
use Rattle.match_model.specs.Witness.{MWitness, RowOf, MWitnesses, no_witnesses}
use Rattle.type_names.specs.declared.meanings.FormKind.{FormKind}
use Rattle.type_names.specs.declared.meanings.FormKind.TheVariants as kinds
use Rattle.type_table.specs.declared.table.TyId.{TyId}
use Rattle.type_table.specs.declared.table.TypeTable.{TypeTable}
use Rattle.type_table.specs.Tables.{table_type, type_variant}
use Rattle.value_syntax.specs.Trees as written
use Rattle.witness_text.specs.declared.named.FormName.{FormName}
use Rattle.witness_text.specs.Trees.{NameTree, FieldTree, name_view}
use Rattle.witness_names.specs.declared.paths.Paths.{Paths}
use Rattle.witness_names.specs.declared.paths.Paths.TheVariants.{Short}
use Rattle.witness_names.specs.Named.{name_by, named_fields, parts_by, types_there}
use Rattle.witness_names.specs.NamedValues.{written_fields, written_parts}

-- how a form is written
abbrev pub kind_of_form : MForm → FormKind
kind_of_form UnitForm = kinds.Unit
kind_of_form (TupleForm types) = kinds.Tuple
kind_of_form (BraceForm fields) = kinds.Brace

-- how a variant of the type is written, and its name
abbrev pub form_told : Paths → MProgram → MType → MVariant → FormKind × NameTree
form_told paths program t v = (kind_of_form v.form, name_by paths program t v.name)

-- the same of the type's variant with this number, if there is one
abbrev pub form_there : Paths → MProgram → MType → (variant : ℕ) → Option (FormKind × NameTree)
form_there paths program t k = option_map (form_told paths program t) (type_variant program t k)

-- the name of the type's variant with this number, if there is one
abbrev pub name_there : MProgram → MType → (variant : ℕ) → Option NameTree
name_there program t k = option_map (λ v. name_by Short program t v.name) (type_variant program t k)

-- the type of what a step from a place of the type enters, if it enters a part that the type has
abbrev pub behind_step : MProgram → MType → MStep → Option MType
behind_step program t s = type_entered (rust_context program) t (entered (rust_set program t) s)

-- the fields of a brace form; another form has none with names
abbrev pub fields_of_form : MForm → List MField
fields_of_form UnitForm = []
fields_of_form (TupleForm types) = []
fields_of_form (BraceForm fields) = fields

-- the same of a variant that may be there
abbrev pub brace_fields : Option MVariant → List MField
brace_fields None = []
brace_fields (Some v) = fields_of_form v.form

-- the witnesses as the fields of the type's variant with this number, if it is of brace form
abbrev pub fields_there : Paths → MProgram → MType → (variant : ℕ) → MWitnesses → List FieldTree
fields_there paths program t k ws =
    named_fields (brace_fields (type_variant program t k)) (parts_by paths program (types_there (node_types program t k))
    ws)

-- the values as the fields of the type's variant with this number, if it is of brace form
abbrev pub written_there : MProgram → MType → (variant : ℕ) → MValues → List written.FieldTree
written_there program t k vs =
    written_fields (brace_fields (type_variant program t k)) (written_parts program (types_there (node_types program t
    k)) vs)

-- the name of an enum that every program has
abbrev pub built_in_owner : MOwner → List ℕ
built_in_owner ResultOwner = codes "Result"
built_in_owner OptionOwner = codes "Option"
built_in_owner (DeclaredItem i) = codes "Option"

-- what a caller sees of a form with its name
abbrev pub form_view : FormKind × FormName → FormKind × NameTree
form_view p = (p.0, name_view p.1)

-- the type is a struct of the program's
abbrev pub IsDeclaredStruct : MProgram → MType → Type 0
IsDeclaredStruct program t =
    (i : ℕ) × (v : MVariant) × (t ≡ NamedType (DeclaredItem i) no_types) × (slice_get program.items i
    ≡ Some (StructItem v))

-- the type is a tuple
abbrev pub is_tuple : MType → Bool
is_tuple (TupleType types) = true
is_tuple _ = false

-- the type of the items of a slice, or of an array that has an item behind so many
abbrev pub item_behind : MType → (others : ℕ) → Option MType
item_behind (SliceType t) i = Some t
item_behind (ArrayType t n) i = elim (nat_lt i n) [ true ↦ Some t | false ↦ None ]
item_behind _ i = None

-- the mutability of a reference, and the type behind it
abbrev pub pointed : MType → Option (Bool × MType)
pointed (PointType mutable t) = Some (mutable, t)
pointed _ = None

-- the same by the number of the type
abbrev pub pointed_view : TypeTable → Bool × TyId → Bool × MType
pointed_view table p = (p.0, table_type table p.1)

-- the first items of a row
abbrev pub front_of : MWitness → MWitnesses
front_of (RowOf front longer back) = front
front_of _ = no_witnesses

-- the last items
abbrev pub back_of : MWitness → MWitnesses
back_of (RowOf front longer back) = back
back_of _ = no_witnesses
