-- No meaning: readings of how nodes are made, how fields are found in parts, and how the least fault is kept.
use Rattle.std.specs.Prelude.{ℕ, Bool, true, false, ◌&&◌, nat_eq, nat_lt, nat_le, slice_get, List, Option, Some, None, if◌then◌else◌}
use Rattle.match_model.specs.Types.{MType}
use Rattle.type_names.specs.declared.meanings.Base.TheVariants as bases
use Rattle.type_names.specs.declared.meanings.Base.{Base}
use Rattle.type_names.specs.declared.meanings.Owner.TheVariants as owners
use Rattle.type_names.specs.declared.meanings.Meaning.{Meaning}
use Rattle.type_names.specs.declared.meanings.Meaning.TheVariants as meanings
use Rattle.type_names.specs.Written.{is_length, broken_type}
use Rattle.type_table.specs.declared.nodes.Head.{Head}
use Rattle.type_table.specs.declared.nodes.Head.TheVariants as heads
use Rattle.type_table.specs.Nodes.{head_type}

-- the length of an array, if it is one
abbrev pub array_length : Option ℕ → (suffix : List ℕ) → Option ℕ
array_length len suffix = if is_length len suffix then len else None

-- the type is `str`
abbrev pub is_str_base : Base → Bool
is_str_base bases.Str = true
is_str_base _ = false

-- the head of the types that a name with this meaning has
abbrev pub head_of : (sized : Bool) → Meaning → Option Head
head_of sized (meanings.Item i) = Some (heads.Named (owners.Item i))
head_of true (meanings.Base b) = if is_str_base b then None else Some (heads.Base b)
head_of false (meanings.Base b) = Some (heads.Base b)
head_of sized (meanings.Opaque o) = Some (heads.Opaque o)
head_of sized meanings.Option = Some (heads.Named owners.Option)
head_of sized meanings.Result = Some (heads.Named owners.Result)

-- the type with a head that may be there, or the broken one
abbrev pub type_with : Option Head → List MType → MType
type_with None parts = broken_type
type_with (Some h) parts = head_type h parts

-- which part of a tuple a field of a variant is
abbrev pub tuple_part : (k i : ℕ) → Option ℕ
tuple_part k i = if nat_eq k 0 then Some i else None

-- which argument of `Option` it is
abbrev pub option_part : (k i : ℕ) → Option ℕ
option_part k i = if nat_eq k 1 && nat_eq i 0 then Some 0 else None

-- which argument of `Result` it is
abbrev pub result_part : (k i : ℕ) → Option ℕ
result_part k i = if nat_lt k 2 && nat_eq i 0 then Some k else None

-- the type with the number that may be there among these
abbrev pub part_type : List MType → Option ℕ → Option MType
part_type parts None = None
part_type parts (Some n) = slice_get parts n

-- the least fault so far, where the item that may be there is the first that breaks a greater rule
abbrev pub earlier : Option (ℕ × ℕ) → (rule : ℕ) → Option ℕ → Option (ℕ × ℕ)
earlier best rule None = best
earlier None rule (Some item) = Some (rule, item)
earlier (Some f) rule (Some item) = if nat_le f.1 item then Some f else Some (rule, item)

-- a rule and an item
abbrev pub fault_pair : ℕ × ℕ → ℕ × ℕ
fault_pair p = (p.0, p.1)
