use Rattle.match_model.proofs.Falling.{steps_lower}
use Rattle.match_model.proofs.laws.steps_lower_weights.Goals as goal

pub returns : goal.returns
returns g c = steps_lower
