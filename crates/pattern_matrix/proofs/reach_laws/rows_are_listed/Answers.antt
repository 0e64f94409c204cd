use Rattle.pattern_matrix.proofs.SearchWhole.{rows_listed}
use Rattle.pattern_matrix.proofs.reach_laws.rows_are_listed.Goals as goal

pub returns : goal.returns
returns g c = rows_listed
