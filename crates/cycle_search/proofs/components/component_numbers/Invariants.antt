use Rattle.std.proofs.Common.{length}
use Rattle.cycle_search.specs.Components.{IsInRange}
use Rattle.cycle_search.proofs.components.component_numbers.Given as goal

abbrev pub invariant-loop-node : goal.invariant-loop-node
invariant-loop-node l = IsInRange (length l.edges) l.search
