use Rattle.std.proofs.Common.{◌-◌}
use Rattle.decision_tree.proofs.cutting.+narrowed.Given as goal

abbrev pub decreases-narrowed : goal.decreases-narrowed
decreases-narrowed g l = l.part.end - l.part.first
