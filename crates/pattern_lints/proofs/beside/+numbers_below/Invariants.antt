use Rattle.std.proofs.Common.{length}
use Rattle.pattern_lints.proofs.beside.+numbers_below.Given as goal

abbrev pub decreases-numbers_below : goal.decreases-numbers_below
decreases-numbers_below g l = length l.steps.now
