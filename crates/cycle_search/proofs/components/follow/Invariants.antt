use Rattle.std.proofs.Common.{length}
use Rattle.cycle_search.specs.Components.{IsInRange}
use Rattle.cycle_search.proofs.components.follow.Given as goal

abbrev pub invariant-steps : goal.invariant-steps
invariant-steps l = IsInRange (length l.edges) l.search
