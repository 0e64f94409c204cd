use Rattle.match_model.proofs.FirstMatrix.{first_matrix_ways}
use Rattle.match_model.proofs.laws.first_matrix_has_the_arms.Goals as goal

pub returns : goal.returns
returns g c = first_matrix_ways
