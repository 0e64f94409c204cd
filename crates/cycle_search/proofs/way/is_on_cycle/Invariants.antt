use Rattle.std.proofs.Common.{◌+◌, ◌-◌, length}
use Rattle.cycle_search.specs.Graphs.{plain_graph}
use Rattle.cycle_search.specs.Searched.{IsSearched}
use Rattle.cycle_search.proofs.way.is_on_cycle.Given as goal

abbrev pub invariant-loop-done : goal.invariant-loop-done
invariant-loop-done l = IsSearched (plain_graph l.edges) l.node l.reached.items l.trail.items l.done

abbrev pub decreases-loop-done : goal.decreases-loop-done
decreases-loop-done l = length l.edges + 1 - l.done
