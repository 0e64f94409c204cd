use Rattle.std.proofs.Common.{take}
use Rattle.std.specs.List.{All}
use Rattle.cycle_search.specs.Graphs.{plain_graph, Reaches}
use Rattle.cycle_search.proofs.cycle.some_reaches_itself.Given as goal

abbrev pub invariant-loop-node : goal.invariant-loop-node
invariant-loop-node l = All (λ n. Reaches (plain_graph l.edges) n n → ⊥) (take l.node-index l.node-items)
