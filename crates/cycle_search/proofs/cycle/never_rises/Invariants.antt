use Rattle.std.proofs.Common.{ℕ, ◌<◌, ◌≤◌, get_or}
use Rattle.cycle_search.specs.Graphs.{plain_graph, IsEdge}
use Rattle.cycle_search.proofs.cycle.never_rises.Given as goal

abbrev pub invariant-loop-node : goal.invariant-loop-node
invariant-loop-node l =
    (from to : ℕ) → from < l.node → IsEdge (plain_graph l.edges) from to → get_or l.numbers to 0 ≤ get_or l.numbers from 0
