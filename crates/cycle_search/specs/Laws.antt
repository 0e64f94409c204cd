-- What follows from the definitions.
use Rattle.std.specs.Prelude.{◌≡◌, ℕ, List}
use Rattle.cycle_search.specs.Graphs.{Reaches, IsFirstOnCycle}

-- a way to a node and a way on from it are a way
abbrev pub WaysAreJoined : Type 0
WaysAreJoined =
    (graph : List (List ℕ)) (from over to : ℕ) → Reaches graph from over → Reaches graph over to → Reaches graph from to

-- there is one first node at most
abbrev pub FirstIsOne : Type 0
FirstIsOne =
    (graph : List (List ℕ)) (node other : ℕ) → IsFirstOnCycle graph node → IsFirstOnCycle graph other → node ≡ other
