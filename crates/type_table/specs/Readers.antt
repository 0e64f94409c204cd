-- What the readers of a table tell.
use Rattle.std.specs.Prelude.{ℕ, Bool, true, false, List, slice_get, option_map, Option, Some, None, if◌then◌else◌}
use Rattle.match_model.specs.Types.{MOwner, DeclaredItem, OptionOwner, ResultOwner, MType, PointType, NamedType}
use Rattle.match_model.specs.Declarations.{MItem, StructItem, EnumItem, MProgram}
use Rattle.type_table.specs.Entries.{Told}

-- who declares a named type
abbrev pub type_owner : MType → Option MOwner
type_owner (NamedType o arguments) = Some o
type_owner _ = None

-- the item is an enum
abbrev pub is_enum_item : Option MItem → Bool
is_enum_item (Some (EnumItem name marked variants)) = true
is_enum_item _ = false

-- the owner, if it declares an enum
abbrev pub enum_owner : MProgram → Option MOwner → Option MOwner
enum_owner program (Some (DeclaredItem i)) = if is_enum_item (slice_get program.items i) then Some (DeclaredItem i) else None
enum_owner program (Some OptionOwner) = Some OptionOwner
enum_owner program (Some ResultOwner) = Some ResultOwner
enum_owner program None = None

-- the name of the enum or struct that an item declares
abbrev pub item_name : Option MItem → Option (List ℕ)
item_name (Some (EnumItem name marked variants)) = Some name
item_name (Some (StructItem v)) = Some v.name
item_name _ = None

-- the item with this number, if it declares an enum or struct
abbrev pub declaring : Option (List ℕ) → ℕ → Option ℕ
declaring (Some name) i = Some i
declaring None i = None

-- the item that declares an enum or struct type
abbrev pub owner_item : MProgram → Option MOwner → Option ℕ
owner_item program (Some (DeclaredItem i)) = declaring (item_name (slice_get program.items i)) i
owner_item program _ = None

-- its name
abbrev pub owner_name : MProgram → Option MOwner → Option (List ℕ)
owner_name program (Some (DeclaredItem i)) = item_name (slice_get program.items i)
owner_name program _ = None

-- the type behind a reference
abbrev pub behind : MType → Option MType
behind (PointType mutable t) = Some t
behind _ = None

-- the type of a scrutinee `x`, or of `*x` where it is dereferenced, by the type of the parameter `x`, and whether there is a `*`
abbrev pub scrutinee_by : MType → Bool → Option (MType × Bool)
scrutinee_by t false = Some (t, false)
scrutinee_by t true = option_map (λ u. (u, true)) (behind t)

-- the same by what a function says of its parameter
abbrev pub scrutinee_of : Option (MType × Bool) → Option (MType × Bool)
scrutinee_of None = None
scrutinee_of (Some p) = scrutinee_by p.0 p.1

-- what an item says of a parameter
abbrev pub parameter_told : Option Told → Option (MType × Bool)
parameter_told None = None
parameter_told (Some x) = x.parameter
