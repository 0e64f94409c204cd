use Rattle.std.proofs.Common.{◌<◌, take, get_or}
use Rattle.std.specs.List.{All}
use Rattle.cycle_search.proofs.cycle.are_below.Given as goal

abbrev pub invariant-loop-node : goal.invariant-loop-node
invariant-loop-node l = All (λ j. get_or l.numbers j 0 < l.limit) (take l.node-index l.nodes)
