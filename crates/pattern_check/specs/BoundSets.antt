-- What nodes bind, as it is kept in sets: each name with the type of what it holds and its mode.
use Rattle.std.specs.Prelude.{◌≡◌, ℕ, ◌-◌, Bool, true, false, not, ◌&&◌, ◌||◌, List, [], ◌∷◌, map, Option, Some, None}
use Rattle.std.specs.List.{list_any, filter_map}
use Rattle.match_model.specs.Types.{MType, ArrayType}
use Rattle.decl_syntax.specs.Patterns.{At, Shape}
use Rattle.type_table.specs.declared.table.TypeTable.{TypeTable}
use Rattle.type_table.specs.Tables.{IsOf, table_type}
use Rattle.pattern_rules.specs.Settings.{Setting, Place}
use Rattle.pattern_rules.specs.Nodes.{Node, Standing, nodes, nodes_within}
use Rattle.pattern_rules.specs.OtherRules.{BoundName, same_bound, bound_by, are_among}
use Rattle.pattern_rules.specs.Faults.{node_rules, alternative_rules}
use Rattle.pattern_check.specs.declared.fault.NodeFault as declared_fault
use Rattle.pattern_check.specs.declared.held.Held as declared_held
use Rattle.pattern_check.specs.declared.held.Bound as declared_bound
use Rattle.pattern_check.specs.Checking.{IsSettingOf}
use Rattle.pattern_check.specs.NodeForms.{node_at}
use Rattle.pattern_check.specs.Walks.{first_in}

-- the type, or the array of so many items of that type
abbrev pub with_length : MType → Option ℕ → MType
with_length t None = t
with_length t (Some n) = ArrayType t n

-- the type that is held
abbrev pub held_type : TypeTable → declared_held.Held → MType
held_type table h = with_length (table_type table h.ty) h.length

-- the type without so many items, where it is an array
abbrev pub shortened : MType → (taken : ℕ) → MType
shortened (ArrayType t n) taken = ArrayType t (n - taken)
shortened t taken = t

-- the type is an array
abbrev pub is_array : MType → Bool
is_array (ArrayType t n) = true
is_array _ = false

-- No meaning: an array is given by its items and its length.
abbrev pub IsSplit : MType → Option ℕ → Type 0
IsSplit t None = is_array t ≡ false
IsSplit t (Some n) = Unit {0}

-- what is held is of the table, and an array is given by its items and its length
abbrev pub IsHeld : TypeTable → declared_held.Held → Type 0
IsHeld table h = IsOf table h.ty × IsSplit (table_type table h.ty) h.length

-- what is bound
abbrev pub bound_view : TypeTable → declared_bound.Bound → BoundName
bound_view table b = record { name = b.name.now; type = held_type table b.held; mode = b.mode }

-- what all of them bind
abbrev pub bounds_view : TypeTable → List declared_bound.Bound → List BoundName
bounds_view table bs = map (bound_view table) bs

-- what all of them hold is of the table
abbrev pub AreHeld : TypeTable → List declared_bound.Bound → Type 0
AreHeld table [] = Unit {0}
AreHeld table (b ∷ bs) = IsHeld table b.held × AreHeld table bs

-- it is one of these
abbrev pub is_bound : BoundName → List BoundName → Bool
is_bound q bs = list_any (same_bound q) bs

-- these were added, in any order and number
abbrev pub Binds : (old new bs : List BoundName) → Type 0
Binds old new bs = (q : BoundName) → is_bound q new ≡ (is_bound q old || is_bound q bs)

-- what may be bound, as a list
abbrev pub bound_list : Option BoundName → List BoundName
bound_list None = []
bound_list (Some b) = b ∷ []

-- what the nodes bind
abbrev pub bounds_of : Setting → List Node → List BoundName
bounds_of s ns = filter_map (bound_by s) ns

-- told of nodes: the first whose alternatives do not all bind the same, and what they bind
pub record Told (s : Setting) (old new : List BoundName) (answer : Option declared_fault.NodeFault) (ns : List Node) : Type 0 where
  pub fault : answer ≡ first_in alternative_rules s ns
  pub binds : Binds old new (bounds_of s ns)

-- told of a node and those below it: the same, but what the node itself binds is left out
pub record ToldBelow (s : Setting) (old new : List BoundName) (answer : Option declared_fault.NodeFault) (n : Node) (ns : List Node) : Type 0 where
  pub fault : answer ≡ first_in alternative_rules s (n ∷ ns)
  pub binds : Binds old new (bounds_of s ns)

-- No meaning: what is told of nodes that break no rule by themselves, in each setting of the table, whatever is bound before.
abbrev pub BoundsAre : TypeTable → (old new : List BoundName) → (Setting → List (List ℕ) → List Node) → Option declared_fault.NodeFault → Type 0
BoundsAre table old new ns answer =
    (s : Setting) (before : List (List ℕ)) → IsSettingOf table s → first_in node_rules s (ns s before) ≡ None → Told s old new answer (ns s before)

-- No meaning: what is told of a node of this form and those below it.
abbrev pub BoundsWithin : TypeTable → (old new : List BoundName) → (from : ℕ) → Shape → Place → Option declared_fault.NodeFault → Type 0
BoundsWithin table old new from shape p answer =
    (s : Setting) (standing : Standing) (before : List (List ℕ)) → IsSettingOf table s → first_in node_rules s (nodes s standing before p (At from shape)) ≡ None →
    ToldBelow s old new answer (node_at from shape standing p before) (nodes_within s before p shape)

-- No meaning: the first alternative is noted, and each later one is told not to bind what the first one does.
abbrev pub IsFirst : (seen : Bool) → (old new own : List BoundName) → (answer : Bool) → Type 0
IsFirst false old new own answer = (answer ≡ false) × Binds old new own
IsFirst true old new own answer = (answer ≡ not (are_among old own && are_among own old)) × (new ≡ old)
