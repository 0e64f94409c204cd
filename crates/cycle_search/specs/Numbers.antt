-- Numbers for the nodes of a graph.
use Rattle.std.specs.Prelude.{ℕ, ◌≤◌, List, slice_index}
use Rattle.cycle_search.specs.Graphs.{IsEdge}

-- no edge goes to a node of a greater number
abbrev pub NeverRises : (graph : List (List ℕ)) → (numbers : List ℕ) → Type 0
NeverRises graph numbers =
    (from to : ℕ) → IsEdge graph from to → slice_index numbers to ≤ slice_index numbers from
