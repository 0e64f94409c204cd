use Rattle.std.proofs.Common.{◌-◌}
use Rattle.pattern_matrix.proofs.halving.+narrowed.Given as goal

abbrev pub decreases-narrowed : goal.decreases-narrowed
decreases-narrowed l = l.part.end - l.part.first
