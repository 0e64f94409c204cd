-- What a table keeps beside how many parts its nodes have: the types that its nodes name are declared, and parts, variants, fields
-- and lengths are fewer than 2^32.
use Rattle.std.specs.Prelude.{◌≡◌, ◌<◌, ◌^◌, ⊤, ℕ, Bool, true, false, List, length, nat_lt, slice_get, Option, Some}
use Rattle.std.specs.List.{All}
use Rattle.type_names.specs.declared.meanings.Owner.TheVariants as owners
use Rattle.type_table.specs.declared.nodes.Head.{Head}
use Rattle.type_table.specs.declared.nodes.Head.TheVariants as heads
use Rattle.type_table.specs.declared.nodes.Node as declared_node
use Rattle.type_table.specs.declared.entries.VariantEntry as declared_variant
use Rattle.type_table.specs.declared.entries.Entry.{Entry}
use Rattle.type_table.specs.declared.entries.Entry.TheVariants as entries

-- the entry is a struct or an enum
abbrev pub declares_type : Option Entry → Bool
declares_type (Some (entries.Struct id variant)) = true
declares_type (Some (entries.Enum id name later variants)) = true
declares_type _ = false

-- the head, with so many parts, is of a type of the program
abbrev pub is_known_head : List Entry → Head → (parts : ℕ) → Bool
is_known_head items heads.Tuple n = nat_lt n (2 ^ 32)
is_known_head items (heads.Array len) n = nat_lt len (2 ^ 32)
is_known_head items (heads.Named (owners.Item i)) n = declares_type (slice_get items i)
is_known_head items _ n = true

-- a tuple with so many parts has fewer than 2^32
abbrev pub has_few : Head → (parts : ℕ) → Bool
has_few heads.Tuple n = nat_lt n (2 ^ 32)
has_few _ n = true

-- the node, if it is a tuple, has fewer than 2^32 parts
abbrev pub HasFewParts : declared_node.Node → Type 0
HasFewParts n = has_few n.head (length n.parts.items) ≡ true

-- the node is of a type of the program
abbrev pub IsKnown : List Entry → declared_node.Node → Type 0
IsKnown items n = is_known_head items n.head (length n.parts.items) ≡ true

-- the variant has fewer than 2^32 fields
abbrev pub HasFewFields : declared_variant.VariantEntry → Type 0
HasFewFields v = length v.fields.items < 2 ^ 32

-- the item has fewer than 2^32 variants, each with fewer than 2^32 fields
abbrev pub IsFew : Entry → Type 0
IsFew (entries.Struct id variant) = HasFewFields variant
IsFew (entries.Enum id name later variants) = (length variants.items < 2 ^ 32) × All HasFewFields variants.items
IsFew _ = ⊤
