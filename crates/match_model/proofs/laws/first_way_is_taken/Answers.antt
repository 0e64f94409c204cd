use Rattle.match_model.proofs.Selecting.{first_taken}
use Rattle.match_model.proofs.laws.first_way_is_taken.Goals as goal

pub returns : goal.returns
returns c = first_taken
