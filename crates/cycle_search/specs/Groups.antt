-- Groups of nodes, of which the first is asked that has a node on a cycle.
use Rattle.std.specs.Prelude.{◌≡◌, ℕ, List, take, slice_get, Some}
use Rattle.std.specs.Global.{Vec}
use Rattle.std.specs.List.{All, Contains}
use Rattle.cycle_search.specs.Graphs.{Reaches}

-- a node of the group reaches itself
abbrev pub HasOneOnCycle : (graph : List (List ℕ)) → Vec ℕ → Type 0
HasOneOnCycle graph group = (node : ℕ) × Contains group.items node × Reaches graph node node

-- none does
abbrev pub HasNoneOnCycle : (graph : List (List ℕ)) → Vec ℕ → Type 0
HasNoneOnCycle graph group = All (λ node. Reaches graph node node → ⊥) group.items

-- the group with this number has a node that reaches itself, and no group before it has
pub record IsFirstGroup (graph : List (List ℕ)) (groups : List (Vec ℕ)) (i : ℕ) : Type 0 where
  pub group : Vec ℕ
  pub is : slice_get groups i ≡ Some group
  pub one : HasOneOnCycle graph group
  pub first : All (HasNoneOnCycle graph) (take i groups)
