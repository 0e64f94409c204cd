use Rattle.arm_laws.proofs.ArmsDone.{arms_complete_match}
use Rattle.arm_laws.proofs.verdict_laws.arms_complete_match.Goals as goal

pub returns : goal.returns
returns c = arms_complete_match
