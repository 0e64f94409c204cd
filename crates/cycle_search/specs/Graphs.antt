-- Directed graphs and the ways in them.
use Rattle.std.specs.Prelude.{ℕ, ◌<◌, List, [], map, slice_index_or}
use Rattle.std.specs.Global.{Vec}
use Rattle.std.specs.List.{All, Contains}

-- of each node, the nodes to which its edges go
abbrev pub plain_graph : List (Vec ℕ) → List (List ℕ)
plain_graph edges = map (λ targets. targets.items) edges

-- each edge of the node goes to a node below `count`
abbrev pub HasTargetsBelow : (count : ℕ) → Vec ℕ → Type 0
HasTargetsBelow count targets = All (λ j. j < count) targets.items

-- an edge goes from the one node to the other
abbrev pub IsEdge : (graph : List (List ℕ)) → (from to : ℕ) → Type 0
IsEdge graph from to = Contains (slice_index_or graph from []) to

-- a node reaches another by an edge, or by an edge and a way on
pub data Reaches (graph : List (List ℕ)) : ℕ → ℕ → Type 0 where
  by_edge : {from to : ℕ} → IsEdge graph from to → Reaches graph from to
  by_way : {from over to : ℕ} → IsEdge graph from over → Reaches graph over to → Reaches graph from to

-- the node reaches itself, and no lesser one does
pub record IsFirstOnCycle (graph : List (List ℕ)) (node : ℕ) : Type 0 where
  pub reaches : Reaches graph node node
  pub first : (lesser : ℕ) → lesser < node → Reaches graph lesser lesser → ⊥

-- no node reaches itself
abbrev pub HasNoCycle : (graph : List (List ℕ)) → Type 0
HasNoCycle graph = (node : ℕ) → Reaches graph node node → ⊥
