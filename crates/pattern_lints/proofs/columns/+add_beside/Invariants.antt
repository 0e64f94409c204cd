use Rattle.std.proofs.Common.{length}
use Rattle.pattern_lints.proofs.columns.+add_beside.Given as goal

abbrev pub decreases-add_beside : goal.decreases-add_beside
decreases-add_beside g l = length l.path.now
