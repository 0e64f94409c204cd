use Rattle.std.proofs.Common.{length}
use Rattle.cycle_search.specs.Components.{IsInRange}
use Rattle.cycle_search.proofs.components.complete.Given as goal

abbrev pub invariant-loop-member : goal.invariant-loop-member
invariant-loop-member l = IsInRange (length l.fn.search.nodes.items) l.search

abbrev pub decreases-loop-member : goal.decreases-loop-member
decreases-loop-member l = length l.search.open.items
