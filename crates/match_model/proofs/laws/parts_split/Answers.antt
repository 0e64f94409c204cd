use Rattle.match_model.proofs.Splitting.{parts_split}
use Rattle.match_model.proofs.laws.parts_split.Goals as goal

pub returns : goal.returns
returns g c = parts_split
