use Rattle.pattern_matrix.proofs.AnyColumn.{expanding_keeps}
use Rattle.pattern_matrix.proofs.reach_laws.expanding_keeps_counts.Goals as goal

pub returns : goal.returns
returns g c = expanding_keeps
