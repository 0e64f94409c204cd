-- What a table of types tells.
use Rattle.std.specs.Prelude.{◌≡◌, ℕ, ◌<◌, Bool, true, false, List, [], map, length, slice_get, Option, Some, None, option_map}
use Rattle.match_model.specs.declared.Width.{Width}
use Rattle.match_model.specs.Types.{MOwner, DeclaredItem, MType, BoolType, CharType, StrType, NeverType, IntType, TupleType, PointType, SliceType, ArrayType, NamedType, MTypes, no_types, types_list, types_of}
use Rattle.match_model.specs.Typing.{is_opaque}
use Rattle.match_model.specs.RustTypes.{count_of_types}
use Rattle.match_model.specs.Declarations.{MVariant, MItem, StructItem, EnumItem, MProgram, form_types, variants_of, is_marked, item_variants, item_is_marked, node_types, MForm, BraceForm}
use Rattle.decl_syntax.specs.Items.{ItemTree}
use Rattle.type_names.specs.Meanings.{means}
use Rattle.type_names.specs.FindingViews.{IsFinder}
use Rattle.type_names.specs.Views.{AreNames, owner_view}
use Rattle.type_names.specs.Written.{program_of}
use Rattle.type_names.specs.declared.meanings.Owner.{Owner}
use Rattle.type_table.specs.declared.table.TypeTable as declared_table
use Rattle.type_table.specs.declared.table.TyId as declared_id
use Rattle.type_table.specs.declared.kinds.TyKind.{TyKind}
use Rattle.type_table.specs.declared.kinds.TyKind.TheVariants as kinds
use Rattle.type_table.specs.declared.nodes.Node as declared_node
use Rattle.type_names.specs.declared.meanings.FormKind.{FormKind}
use Rattle.type_names.specs.declared.meanings.FormKind.TheVariants as form_kinds
use Rattle.type_table.specs.declared.entries.VariantEntry as declared_variant
use Rattle.type_table.specs.declared.entries.Entry.{Entry}
use Rattle.type_table.specs.declared.entries.Entry.TheVariants as entries
use Rattle.type_table.specs.declared.draft.Draft as declared_draft
use Rattle.type_table.specs.Nodes.{types_in, type_at, owner_arguments}
use Rattle.type_table.specs.Entries.{Told, entry_told, items_told}
use Rattle.type_table.specs.Faults.{BreaksNone}
use Rattle.type_table.specs.Whole.{IsWhole}

-- the types of a table, by number
abbrev pub table_types : declared_table.TypeTable → List MType
table_types t = types_in t.nodes.keys

-- the type with this number
abbrev pub table_type : declared_table.TypeTable → declared_id.TyId → MType
table_type t id = type_at (table_types t) id.index

-- the number is of this table
abbrev pub IsOf : declared_table.TypeTable → declared_id.TyId → Type 0
IsOf t id = id.index < length t.nodes.keys

-- what the items say
abbrev pub table_told : declared_table.TypeTable → List Told
table_told t = map (entry_told (table_types t)) t.items.items

-- what the file and the width say, by the table
abbrev pub table_program : declared_table.TypeTable → MProgram
table_program t = record { items = map (λ x. x.item) (table_told t); width = t.width }

-- the draft of a table is that of a file with these items, for this width
pub record IsDraftOf (items : List ItemTree) (width : Width) (d : declared_draft.Draft) : Type 0 where
  pub whole : IsWhole d.nodes.keys d.items.items d.values.items
  pub told : map (entry_told (types_in d.nodes.keys)) d.items.items ≡ items_told (means items) items
  pub width_is : d.width ≡ width
  pub names : AreNames items d.names
  pub finder : IsFinder items d.finder

-- the table is that of a file with these items, of which none breaks a rule, for this width
pub record IsTableOf (items : List ItemTree) (width : Width) (t : declared_table.TypeTable) : Type 0 where
  pub told : table_told t ≡ items_told (means items) items
  pub width_is : t.width ≡ width
  pub names : AreNames items t.names
  pub finder : IsFinder items t.finder
  pub program : table_program t ≡ program_of items width
  pub unbroken : BreaksNone items width

-- the item is a struct
abbrev pub is_struct : Option MItem → Bool
is_struct (Some (StructItem v)) = true
is_struct _ = false

-- the type is a struct
abbrev pub is_struct_type : MProgram → MType → Bool
is_struct_type program (NamedType (DeclaredItem i) arguments) = is_struct (slice_get program.items i)
is_struct_type program _ = false

-- how many fields a struct has, or how many variants an enum
abbrev pub count_of_item : Option MItem → ℕ
count_of_item (Some (StructItem v)) = length (types_list (form_types v.form))
count_of_item (Some (EnumItem name marked variants)) = length variants
count_of_item _ = 0

-- how many parts a tuple or struct has, or how many variants another named type
abbrev pub count_of_type : MProgram → MType → ℕ
count_of_type program (TupleType ts) = length (types_list ts)
count_of_type program (NamedType (DeclaredItem i) arguments) = count_of_item (slice_get program.items i)
count_of_type program _ = 0

-- the kind is that of the type
abbrev pub KindIs : declared_table.TypeTable → MType → TyKind → Type 0
KindIs table t kinds.Bool = t ≡ BoolType
KindIs table t kinds.Char = t ≡ CharType
KindIs table t (kinds.Int kind) = t ≡ IntType kind
KindIs table t kinds.Str = t ≡ StrType
KindIs table t kinds.Never = t ≡ NeverType
KindIs table t kinds.Opaque = is_opaque t ≡ true
KindIs table t (kinds.Tuple n) = (ts : MTypes) × (t ≡ TupleType ts) × (length (types_list ts) ≡ n)
KindIs table t (kinds.Point mutable inner) = IsOf table inner × (t ≡ PointType mutable (table_type table inner))
KindIs table t (kinds.Slice item) = IsOf table item × (t ≡ SliceType (table_type table item))
KindIs table t (kinds.Array item n) = IsOf table item × (t ≡ ArrayType (table_type table item) n)
KindIs table t (kinds.Struct n) =
    (i : ℕ) × (v : MVariant) × (t ≡ NamedType (DeclaredItem i) no_types) × (slice_get (table_program table).items i ≡ Some (StructItem v)) × (length (types_list (form_types v.form)) ≡ n)
KindIs table t (kinds.Enum count later) =
    (o : MOwner) × (ts : MTypes) × (t ≡ NamedType o ts) × (is_struct_type (table_program table) t ≡ false)
    × (length (variants_of (table_program table) t) ≡ count) × (is_marked (table_program table) t ≡ later)

-- No meaning: the types of the parts of a node that may be there.
abbrev pub parts_at : List MType → Option declared_node.Node → List MType
parts_at types None = []
parts_at types (Some n) = map (type_at types) n.parts.items

-- No meaning: the types of the parts of a type's node.
abbrev pub type_parts : declared_table.TypeTable → declared_id.TyId → List MType
type_parts table ty = parts_at (table_types table) (slice_get table.nodes.keys ty.index)

-- No meaning: how many fields a variant of this form has, for which so many are kept.
abbrev pub fields_with : FormKind → ℕ → ℕ
fields_with form_kinds.Unit n = 0
fields_with _ n = n

-- No meaning: how many fields the variant of an entry has.
abbrev pub fields_of_entry : declared_variant.VariantEntry → ℕ
fields_of_entry v = fields_with v.form (length v.fields.items)

-- No meaning: how many fields the struct of an entry has, or how many variants its enum.
abbrev pub entry_count : Entry → ℕ
entry_count (entries.Struct id variant) = fields_of_entry variant
entry_count (entries.Enum id name later variants) = length variants.items
entry_count _ = 0

-- No meaning: the kind is that of the type that the item declares.
abbrev pub ItemKindIs : MItem → TyKind → Type 0
ItemKindIs item (kinds.Struct n) = (v : MVariant) × (item ≡ StructItem v) × (length (types_list (form_types v.form)) ≡ n)
ItemKindIs item (kinds.Enum count later) = (is_struct (Some item) ≡ false) × (length (item_variants (Some item)) ≡ count) × (item_is_marked (Some item) ≡ later)
ItemKindIs item _ = ⊥

-- the part with this number of types that may be there
abbrev pub part_of : Option MTypes → (i : ℕ) → Option MType
part_of None i = None
part_of (Some ts) i = slice_get (types_list ts) i

-- the type of a field of a variant; a tuple and a struct have the variant 0
abbrev pub field_type : MProgram → MType → (variant i : ℕ) → Option MType
field_type program t k i = part_of (node_types program t k) i

-- the name of a field of a variant of brace form
abbrev pub form_field_name : MForm → (i : ℕ) → Option (List ℕ)
form_field_name (BraceForm fields) i = option_map (λ f. f.name) (slice_get fields i)
form_field_name _ i = None

-- the same of a variant that may be there
abbrev pub field_name_of : Option MVariant → (i : ℕ) → Option (List ℕ)
field_name_of None i = None
field_name_of (Some v) i = form_field_name v.form i

-- the variant of the item with this number
abbrev pub declared_variant_at : declared_table.TypeTable → (item variant : ℕ) → Option MVariant
declared_variant_at t i k = slice_get (item_variants (slice_get (table_program t).items i)) k

-- No meaning: the number of the type of a field, where a variant of this form has fields.
abbrev pub number_with : FormKind → Option ℕ → Option ℕ
number_with form_kinds.Unit o = None
number_with _ o = o

-- No meaning: the number of the type of a field of a variant.
abbrev pub field_number : declared_variant.VariantEntry → (i : ℕ) → Option ℕ
field_number v i = number_with v.form (option_map (λ f. f.ty) (slice_get v.fields.items i))

-- No meaning: the type is named by that owner, with as many arguments as it has.
abbrev pub NamedBy : declared_table.TypeTable → declared_id.TyId → Owner → Type 0
NamedBy table ty owner =
    (table_type table ty ≡ NamedType (owner_view owner) (types_of (type_parts table ty))) × (length (type_parts table ty) ≡ owner_arguments (owner_view owner))

-- the variant of a type with this number
abbrev pub type_variant : MProgram → MType → (variant : ℕ) → Option MVariant
type_variant program t k = slice_get (variants_of program t) k

-- its name
abbrev pub variant_name_of : Option MVariant → Option (List ℕ)
variant_name_of None = None
variant_name_of (Some v) = Some v.name

-- how many fields a variant of a type has; a tuple and a struct have the variant 0
abbrev pub fields_of_type : MProgram → MType → (variant : ℕ) → ℕ
fields_of_type program t k = count_of_types (node_types program t k)
