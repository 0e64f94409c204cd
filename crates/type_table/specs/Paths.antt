-- What a path in a pattern finds, as types of a table.
use Rattle.std.specs.Prelude.{◌≡◌, ◌^◌, ⊤, ℕ, List, nat_eq, nat_lt, slice_get, option_map, Option, Some, None, if◌then◌else◌}
use Rattle.match_model.specs.Types.{MOwner, DeclaredItem, NamedType, no_types}
use Rattle.type_names.specs.declared.meanings.FormKind.{FormKind}
use Rattle.type_names.specs.declared.meanings.FormKind.TheVariants as kinds
use Rattle.type_names.specs.declared.meanings.Owner.{Owner}
use Rattle.type_names.specs.declared.meanings.Owner.TheVariants as owners
use Rattle.type_names.specs.declared.targets.Target.{Target}
use Rattle.type_names.specs.declared.targets.Target.TheVariants as targets
use Rattle.type_names.specs.Finding.{FoundTree, FoundNothing, FoundTwice, FoundStruct, FoundVariant}
use Rattle.type_names.specs.Views.{owner_view}
use Rattle.type_table.specs.declared.entries.Entry.{Entry}
use Rattle.type_table.specs.declared.entries.Entry.TheVariants as entries
use Rattle.type_table.specs.declared.finding.Found.{Found}
use Rattle.type_table.specs.declared.finding.Found.TheVariants as founds
use Rattle.type_table.specs.declared.table.TypeTable as declared_table
use Rattle.type_table.specs.declared.table.TyId as declared_id
use Rattle.type_table.specs.Readers.{type_owner}
use Rattle.type_table.specs.Tables.{IsOf, table_type}

-- the answer is what was found; a struct is given as the type that its item declares
abbrev pub FoundIs : declared_table.TypeTable → FoundTree → Found → Type 0
FoundIs t FoundNothing found = found ≡ founds.Nothing
FoundIs t FoundTwice found = found ≡ founds.Twice
FoundIs t (FoundStruct i) found = (id : declared_id.TyId) × (found ≡ founds.Struct id) × IsOf t id × (table_type t id ≡ NamedType (DeclaredItem i) no_types)
FoundIs t (FoundVariant o k) found = (owner : Owner) × (found ≡ founds.Variant owner k) × (owner_view owner ≡ o)

-- No meaning: the number of the type of a struct's entry.
abbrev pub struct_id : Option Entry → Option ℕ
struct_id (Some (entries.Struct id variant)) = Some id
struct_id _ = None

-- No meaning: the struct with this number of its type, if there is one.
abbrev pub found_at : Option ℕ → Found
found_at (Some id) = founds.Struct (record { index = id })
found_at None = founds.Nothing

-- No meaning: the variant, if its number is below 2^32.
abbrev pub found_variant : Owner → ℕ → Found
found_variant owner k = if nat_lt k (2 ^ 32) then founds.Variant owner k else founds.Nothing

-- No meaning: the answer by what was found.
abbrev pub answer : declared_table.TypeTable → Target → Found
answer t targets.Nothing = founds.Nothing
answer t targets.Twice = founds.Twice
answer t (targets.Struct i) = found_at (struct_id (slice_get t.items.items i))
answer t (targets.Variant owner k) = found_variant owner k

-- a struct that was found is given as a type of the table
abbrev pub FoundOf : declared_table.TypeTable → Found → Type 0
FoundOf t (founds.Struct id) = IsOf t id
FoundOf t _ = ⊤

-- No meaning: the form of a struct's entry.
abbrev pub struct_entry_form : Option Entry → Option FormKind
struct_entry_form (Some (entries.Struct id variant)) = Some variant.form
struct_entry_form _ = None

-- No meaning: the form of a variant of an enum's entry.
abbrev pub enum_entry_form : Option Entry → ℕ → Option FormKind
enum_entry_form (Some (entries.Enum id name later variants)) k = option_map (λ v. v.form) (slice_get variants.items k)
enum_entry_form _ k = None

-- No meaning: the form of a struct by who declares it.
abbrev pub struct_form_by : List Entry → Option MOwner → Option FormKind
struct_form_by items (Some (DeclaredItem i)) = struct_entry_form (slice_get items i)
struct_form_by items _ = None

-- No meaning: the form of a variant by its enum.
abbrev pub variant_form_by : List Entry → Owner → ℕ → Option FormKind
variant_form_by items (owners.Item i) k = enum_entry_form (slice_get items i) k
variant_form_by items owners.Option k = if nat_eq k 0 then Some kinds.Unit else (if nat_eq k 1 then Some kinds.Tuple else None)
variant_form_by items owners.Result k = if nat_lt k 2 then Some kinds.Tuple else None

-- No meaning: the form of what was found.
abbrev pub form_by : declared_table.TypeTable → Found → Option FormKind
form_by t (founds.Struct id) = struct_form_by t.items.items (type_owner (table_type t id))
form_by t (founds.Variant owner k) = variant_form_by t.items.items owner k
form_by t _ = None
