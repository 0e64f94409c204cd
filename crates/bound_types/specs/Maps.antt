-- What a map of types says of a name.
use Rattle.std.specs.Prelude.{ℕ, List, Option}
use Rattle.indexmap.specs.IndexMap.{get_by_text}
use Rattle.bound_types.specs.declared.types.BoundTypes.{BoundTypes}

-- the type of the name, by its UTF-8 bytes, where the map has one
abbrev pub type_in : {T : Type 0} → BoundTypes T → (name : List ℕ) → Option T
type_in m name = get_by_text m.types name
