-- What the entries of a table say of the items of a file.
use Rattle.std.specs.Prelude.{◌≡◌, ℕ, Bool, true, ◌&&◌, List, [], map, nat_lt, is_some, slice_get, Option, Some, None}
use Rattle.std.specs.Rc.{rc_str_bytes}
use Rattle.std.specs.List.{list_all, enumerate_from}
use Rattle.match_model.specs.Types.{MType, DeclaredItem, NamedType, no_types}
use Rattle.match_model.specs.Declarations.{MField, MForm, UnitForm, TupleForm, BraceForm, MVariant, MItem, StructItem, EnumItem, OtherItem}
use Rattle.decl_syntax.specs.Items.{FormTree, Unit, KindTree, Enum, Struct, Import, Function, ItemTree}
use Rattle.decl_syntax.specs.Items as forms
use Rattle.type_names.specs.declared.meanings.FormKind.{FormKind}
use Rattle.type_names.specs.declared.meanings.FormKind.TheVariants as kinds
use Rattle.type_names.specs.Meanings.{Means}
use Rattle.type_names.specs.Written.{type_of, field_of, item_of}
use Rattle.type_table.specs.declared.entries.FieldEntry as declared_field
use Rattle.type_table.specs.declared.entries.VariantEntry as declared_variant
use Rattle.type_table.specs.declared.entries.Entry.{Entry}
use Rattle.type_table.specs.declared.entries.Entry.TheVariants as entries
use Rattle.type_table.specs.Nodes.{type_at}

-- the field
abbrev pub field_entry : List MType → declared_field.FieldEntry → MField
field_entry types f = record { name = rc_str_bytes f.name; type = type_at types f.ty }

-- the form with these fields
abbrev pub form_with : FormKind → List MField → MForm
form_with kinds.Unit fields = UnitForm
form_with kinds.Tuple fields = TupleForm (map (λ f. f.type) fields)
form_with kinds.Brace fields = BraceForm fields

-- the variant
abbrev pub variant_entry : List MType → declared_variant.VariantEntry → MVariant
variant_entry types v = record { name = rc_str_bytes v.name; form = form_with v.form (map (field_entry types) v.fields.items) }

-- what an item says: what it declares, its own type, and for a function the type of the parameter and whether it writes `match *x`
pub record Told : Type 0 where
  pub item : MItem
  pub own : Option MType
  pub parameter : Option (MType × Bool)

-- what the item of an entry says
abbrev pub entry_told : List MType → Entry → Told
entry_told types (entries.Struct id variant) = record { item = StructItem (variant_entry types variant); own = Some (type_at types id); parameter = None }
entry_told types (entries.Enum id name later variants) =
    record { item = EnumItem (rc_str_bytes name) later (map (variant_entry types) variants.items); own = Some (type_at types id); parameter = None }
entry_told types (entries.Function param deref) = record { item = OtherItem; own = None; parameter = Some (type_at types param, deref) }
entry_told types entries.Import = record { item = OtherItem; own = None; parameter = None }

-- the written fields of a form
abbrev pub form_fields : Means → FormTree → List MField
form_fields names Unit = []
form_fields names (forms.Tuple fields) = map (field_of names) fields
form_fields names (forms.Brace fields) = map (field_of names) fields

-- the type that an item declares
abbrev pub own_type : ℕ → KindTree → Option MType
own_type i (Enum name variants) = Some (NamedType (DeclaredItem i) no_types)
own_type i (Struct name form) = Some (NamedType (DeclaredItem i) no_types)
own_type i (Import owner names) = None
own_type i (Function name parameter deref arms) = None

-- the type of a function's parameter, and whether it writes `match *x`
abbrev pub parameter_of : Means → KindTree → Option (MType × Bool)
parameter_of names (Function name parameter deref arms) = Some (type_of names true parameter, is_some deref)
parameter_of names _ = None

-- what the item with this number says
abbrev pub item_told : Means → ℕ → ItemTree → Told
item_told names i item = record { item = item_of names item; own = own_type i item.kind; parameter = parameter_of names item.kind }

-- what the items of a file say
abbrev pub items_told : Means → List ItemTree → List Told
items_told names items = map (λ p. item_told names p.0 p.1) (enumerate_from 0 items)

-- the number of the type of a field is below that
abbrev pub field_below : ℕ → declared_field.FieldEntry → Bool
field_below n f = nat_lt f.ty n

-- so are those of all fields of a variant
abbrev pub variant_below : ℕ → declared_variant.VariantEntry → Bool
variant_below n v = list_all (field_below n) v.fields.items

-- so are all numbers of types in an entry
abbrev pub entry_below : ℕ → Entry → Bool
entry_below n (entries.Struct id variant) = nat_lt id n && variant_below n variant
entry_below n (entries.Enum id name later variants) = nat_lt id n && list_all (variant_below n) variants.items
entry_below n (entries.Function param deref) = nat_lt param n
entry_below n entries.Import = true

-- the number of the type that an item declares, if it does
abbrev pub entry_id : Entry → Option ℕ
entry_id (entries.Struct id variant) = Some id
entry_id (entries.Enum id name later variants) = Some id
entry_id _ = None

-- each item that declares a type has the number of its own
abbrev pub NameThemselves : List MType → List Entry → Type 0
NameThemselves types items = (i : ℕ) (e : Entry) (id : ℕ) → slice_get items i ≡ Some e → entry_id e ≡ Some id → type_at types id ≡ NamedType (DeclaredItem i) no_types

-- a variant of this name and form
abbrev pub variant_named : List ℕ → MForm → MVariant
variant_named name form = record { name = name; form = form }
