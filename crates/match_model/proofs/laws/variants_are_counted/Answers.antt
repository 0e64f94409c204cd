use Rattle.match_model.proofs.Counted.{counted}
use Rattle.match_model.proofs.laws.variants_are_counted.Goals as goal

pub returns : goal.returns
returns c = counted
