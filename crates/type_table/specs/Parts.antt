-- The numbers of the types of parts: of a field or of a part of a tuple, and of the one part of a reference, slice or array.
use Rattle.std.specs.Prelude.{◌≡◌, ⊤, ℕ, zero, suc, List, slice_get, option_map, unwrap_or, Option, Some, None}
use Rattle.type_names.specs.declared.meanings.Owner.{Owner}
use Rattle.type_names.specs.declared.meanings.Owner.TheVariants as owners
use Rattle.type_table.specs.declared.entries.VariantEntry.{VariantEntry}
use Rattle.type_table.specs.declared.entries.Entry.{Entry}
use Rattle.type_table.specs.declared.entries.Entry.TheVariants as entries
use Rattle.type_table.specs.declared.kinds.TyKind.{TyKind}
use Rattle.type_table.specs.declared.kinds.TyKind.TheVariants as kinds
use Rattle.type_table.specs.declared.nodes.Head.{Head}
use Rattle.type_table.specs.declared.nodes.Head.TheVariants as heads
use Rattle.type_table.specs.declared.nodes.Node.{Node}
use Rattle.type_table.specs.declared.table.TyId.{TyId}
use Rattle.type_table.specs.declared.table.TypeTable.{TypeTable}
use Rattle.type_table.specs.Readings.{tuple_part, option_part, result_part}
use Rattle.type_table.specs.Tables.{field_number}

-- the type with the number that may be there
abbrev pub id_at : Option ℕ → Option TyId
id_at o = option_map (λ n. record { index = n }) o

-- the part that may be asked for among these
abbrev pub part_at : (parts : List ℕ) → Option ℕ → Option TyId
part_at parts None = None
part_at parts (Some n) = id_at (slice_get parts n)

-- the field of a variant that may be there
abbrev pub field_at : Option VariantEntry → (i : ℕ) → Option TyId
field_at None i = None
field_at (Some v) i = id_at (field_number v i)

-- the variant of an item that may be there; a struct has the variant 0
abbrev pub entry_variant_at : Option Entry → (k : ℕ) → Option VariantEntry
entry_variant_at (Some (entries.Struct id variant)) zero = Some variant
entry_variant_at (Some (entries.Enum id name later variants)) k = slice_get variants.items k
entry_variant_at _ _ = None

-- the field of a named type, whose arguments are the parts
abbrev pub named_part : List Entry → Owner → (parts : List ℕ) → (variant i : ℕ) → Option TyId
named_part items (owners.Item n) parts k i = field_at (entry_variant_at (slice_get items n) k) i
named_part items owners.Option parts k i = part_at parts (option_part k i)
named_part items owners.Result parts k i = part_at parts (result_part k i)

-- the field of a type with this head and these parts
abbrev pub head_part : List Entry → Head → (parts : List ℕ) → (variant i : ℕ) → Option TyId
head_part items heads.Tuple parts k i = part_at parts (tuple_part k i)
head_part items (heads.Named owner) parts k i = named_part items owner parts k i
head_part items _ parts k i = None

-- the field of a node's type
abbrev pub node_part : List Entry → Option Node → (variant i : ℕ) → Option TyId
node_part items None k i = None
node_part items (Some n) k i = head_part items n.head n.parts.items k i

-- the number of the type of a field, or of a part of a tuple, whose variant is 0 as that of a struct, if it is there
abbrev pub part_there : TypeTable → TyId → (variant i : ℕ) → Option TyId
part_there t ty k i = node_part t.items.items (slice_get t.nodes.keys ty.index) k i

-- the same; where there is none it is that of the type itself
abbrev pub part_id : TypeTable → TyId → (variant i : ℕ) → TyId
part_id t ty k i = unwrap_or (part_there t ty k i) ty

-- what is behind a type with this head and these parts
abbrev pub head_inner : Head → (parts : List ℕ) → Option TyId
head_inner (heads.Point mutable) parts = part_at parts (Some 0)
head_inner heads.Slice parts = part_at parts (Some 0)
head_inner (heads.Array n) parts = part_at parts (Some 0)
head_inner _ parts = None

-- what is behind a node's type
abbrev pub node_inner : Option Node → Option TyId
node_inner None = None
node_inner (Some n) = head_inner n.head n.parts.items

-- the number of the type behind a reference, or of the items of a slice or array; of every other type it is that of the type itself
abbrev pub inner_id : TypeTable → TyId → TyId
inner_id t ty = unwrap_or (node_inner (slice_get t.nodes.keys ty.index)) ty

-- the type that the kind of a type holds is that with this number
abbrev pub HoldsInner : TyKind → TyId → Type 0
HoldsInner (kinds.Point mutable inner) ty = inner ≡ ty
HoldsInner (kinds.Slice item) ty = item ≡ ty
HoldsInner (kinds.Array item n) ty = item ≡ ty
HoldsInner _ ty = ⊤
