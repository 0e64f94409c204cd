use Rattle.cycle_search.proofs.Ways.{joined}
use Rattle.cycle_search.proofs.laws.ways_are_joined.Goals as goal

pub returns : goal.returns
returns c = joined
