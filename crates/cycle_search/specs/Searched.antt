-- How far a search from a node has come.
use Rattle.std.specs.Prelude.{◌≡◌, ◌+◌, ◌<◌, ◌≤◌, ◌⊎◌, ℕ, Bool, true, false, List, [], ◌∷◌, length, slice_index, slice_index_or}
use Rattle.std.specs.List.{All, Contains}
use Rattle.cycle_search.specs.Graphs.{IsEdge, Reaches}

-- the node is marked as reached
abbrev pub IsReached : (marks : List Bool) → ℕ → Type 0
IsReached marks node = slice_index_or marks node false ≡ true

-- how many nodes are not marked
abbrev pub unmarked : List Bool → ℕ
unmarked [] = 0
unmarked (true ∷ marks) = unmarked marks
unmarked (false ∷ marks) = unmarked marks + 1

-- each edge of the node goes to a marked node that is not the start
abbrev pub IsDone : (graph : List (List ℕ)) → (start : ℕ) → (marks : List Bool) → ℕ → Type 0
IsDone graph start marks node = (to : ℕ) → IsEdge graph node to → IsReached marks to × (to ≡ start → ⊥)

-- the trail has the start and what is reached from it, and its first `done` nodes are done
pub record IsSearched (graph : List (List ℕ)) (start : ℕ) (marks : List Bool) (trail : List ℕ) (done : ℕ) : Type 0 where
  pub len : length marks ≡ length graph
  pub total : unmarked marks + length trail ≡ length graph + 1
  pub begin : Contains trail start
  pub marked : (node : ℕ) → IsReached marks node → Contains trail node
  pub reached : All (λ node. (node ≡ start) ⊎ Reaches graph start node) trail
  pub within : All (λ node. node < length graph) trail
  pub reach : done ≤ length trail
  pub finished : (k : ℕ) → k < done → IsDone graph start marks (slice_index trail k)
