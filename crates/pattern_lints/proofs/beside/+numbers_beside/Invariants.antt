use Rattle.std.proofs.Common.{length}
use Rattle.pattern_lints.proofs.beside.+numbers_beside.Given as goal

abbrev pub decreases-numbers_beside : goal.decreases-numbers_beside
decreases-numbers_beside g l = length l.path.now
