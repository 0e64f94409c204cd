use Rattle.std.proofs.Common.{◌≡◌, length}
use Rattle.cycle_search.proofs.components.numbers_of.Given as goal

abbrev pub invariant-loop-node : goal.invariant-loop-node
invariant-loop-node l = length l.numbers.items ≡ l.node-index
