-- What is told of types and their values. `sure` is true where the place is sure to hold a valid value. Where it is not, `!` and an enum
-- without variants have their bare unseen value, and a reference asks for a value of what it refers to.
use Rattle.std.specs.Prelude.{◌≡◌, ℕ, ◌<◌, Bool, true, false, not, List, map, length, slice_index_or, Option, Some, None}
use Rattle.match_model.specs.declared.Width.{Width}
use Rattle.match_model.specs.Types.{MType}
use Rattle.match_model.specs.Declarations.{MItem, MProgram}
use Rattle.match_model.specs.Values.{MValue}
use Rattle.match_model.specs.Typing.{is_value}
use Rattle.type_table.specs.declared.entries.Entry.{Entry}
use Rattle.type_table.specs.declared.nodes.Node.{Node}
use Rattle.type_table.specs.Nodes.{types_in, type_at}
use Rattle.type_table.specs.Entries.{entry_told}

-- what the entries declare
abbrev pub items_in : List Node → List Entry → List MItem
items_in nodes entries = map (λ e. (entry_told (types_in nodes) e).item) entries

-- what the entries and the width say
abbrev pub program_in : Width → List Node → List Entry → MProgram
program_in width nodes entries = record { items = items_in nodes entries; width = width }

-- each of the types has a finite value where a place is not sure to hold a valid one
abbrev pub AreFinite : MProgram → List MType → Type 0
AreFinite program types = (n : ℕ) → n < length types → (v : MValue) × (is_value program false (type_at types n) v ≡ true)

-- the marks tell of each node whether its type has a value at such a place, whatever the width is. At a sure place they do where each type
-- has one at an unsure place
pub record TellsValues (sure : Bool) (nodes : List Node) (entries : List Entry) (marks : List Bool) : Type 0 where
  pub len : length marks ≡ length nodes
  pub complete : (width : Width) (n : ℕ) (v : MValue) → n < length nodes →
      is_value (program_in width nodes entries) sure (type_at (types_in nodes) n) v ≡ true → slice_index_or marks n false ≡ true
  pub sound : (width : Width) → (sure ≡ true → AreFinite (program_in width nodes entries) (types_in nodes)) →
      (n : ℕ) → ((v : MValue) → is_value (program_in width nodes entries) sure (type_at (types_in nodes) n) v ≡ false) → slice_index_or marks n false ≡ false

-- No meaning: by the marks the type that an item declares, if it does, has no value.
abbrev pub lacks_own : (marks : List Bool) → Option ℕ → Bool
lacks_own marks None = false
lacks_own marks (Some id) = not (slice_index_or marks id false)
