use Rattle.std.proofs.Common.{ℕ, ◌<◌}
use Rattle.cycle_search.specs.Graphs.{plain_graph, Reaches}
use Rattle.cycle_search.proofs.cycle.first_on_cycle.Given as goal

abbrev pub invariant-loop-node : goal.invariant-loop-node
invariant-loop-node l = (k : ℕ) → k < l.node → Reaches (plain_graph l.edges) k k → ⊥
