use Rattle.pattern_laws.proofs.Written.{some_overlaps}
use Rattle.pattern_laws.proofs.overlap_laws.some_overlaps.Goals as goal

pub returns : goal.returns
returns c = some_overlaps
