use Rattle.arm_laws.proofs.Completing.{verdict_is_ordered}
use Rattle.arm_laws.proofs.laws.verdict_is_ordered.Goals as goal

pub returns : goal.returns
returns c = verdict_is_ordered
