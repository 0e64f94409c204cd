use Rattle.pattern_matrix.proofs.FirstCounts.{rows_tell}
use Rattle.pattern_matrix.proofs.reach_laws.rows_tell.Goals as goal

pub returns : goal.returns
returns g c = rows_tell
