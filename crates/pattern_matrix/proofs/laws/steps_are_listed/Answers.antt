use Rattle.pattern_matrix.proofs.Listed.{steps_listed}
use Rattle.pattern_matrix.proofs.laws.steps_are_listed.Goals as goal

pub returns : goal.returns
returns g c = steps_listed
