use Rattle.range_split.proofs.Determined.{determined}
use Rattle.range_split.proofs.laws.split_is_determined.Goals as goal

pub returns : goal.returns
returns c = determined
