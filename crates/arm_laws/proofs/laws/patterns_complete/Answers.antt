use Rattle.arm_laws.proofs.Completing.{patterns_complete}
use Rattle.arm_laws.proofs.laws.patterns_complete.Goals as goal

pub returns : goal.returns
returns c = patterns_complete
