use Rattle.pattern_laws.proofs.ArmsKept.{ways_kept}
use Rattle.pattern_laws.proofs.laws.ways_are_kept.Goals as goal

pub returns : goal.returns
returns c = ways_kept
