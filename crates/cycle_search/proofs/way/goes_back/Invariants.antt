use Rattle.cycle_search.specs.Graphs.{plain_graph}
use Rattle.cycle_search.proofs.Searches.{IsGoing}
use Rattle.cycle_search.proofs.way.goes_back.Given as goal

abbrev pub invariant-loop-target : goal.invariant-loop-target
invariant-loop-target l =
    IsGoing (plain_graph l.edges) l.start l.target-items l.from l.reached.items l.trail.items l.done l.target-index
