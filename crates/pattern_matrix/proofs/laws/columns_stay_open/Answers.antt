use Rattle.pattern_matrix.proofs.Opens.{columns_stay}
use Rattle.pattern_matrix.proofs.laws.columns_stay_open.Goals as goal

pub returns : goal.returns
returns g c = columns_stay
