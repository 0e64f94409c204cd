use Rattle.std.proofs.Common.{take}
use Rattle.std.specs.List.{All}
use Rattle.type_table.specs.Known.{HasFewParts}
use Rattle.type_table.proofs.known.nodes_are_few.Given as goal

abbrev pub invariant-loop-node : goal.invariant-loop-node
invariant-loop-node l = All HasFewParts (take l.node-index l.nodes)
