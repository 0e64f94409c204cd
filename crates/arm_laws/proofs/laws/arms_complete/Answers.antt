use Rattle.arm_laws.proofs.Completing.{arms_complete}
use Rattle.arm_laws.proofs.laws.arms_complete.Goals as goal

pub returns : goal.returns
returns c = arms_complete
