use Rattle.std.proofs.Common.{take}
use Rattle.std.specs.List.{All}
use Rattle.cycle_search.specs.Graphs.{plain_graph}
use Rattle.cycle_search.specs.Groups.{HasNoneOnCycle}
use Rattle.cycle_search.proofs.cycle.first_group_on_cycle.Given as goal

abbrev pub invariant-loop-i : goal.invariant-loop-i
invariant-loop-i l = All (HasNoneOnCycle (plain_graph l.edges)) (take l.i l.groups)
