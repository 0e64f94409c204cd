use Rattle.slice_split.proofs.Determined.{determined}
use Rattle.slice_split.proofs.laws.split_is_determined.Goals as goal

pub returns : goal.returns
returns c = determined
