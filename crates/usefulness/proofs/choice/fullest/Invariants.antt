use Rattle.std.proofs.Common.{◌<◌, length}
use Rattle.usefulness.proofs.choice.fullest.Given as goal

abbrev pub invariant-loop-i : goal.invariant-loop-i
invariant-loop-i g l = l.best < length l.heads
