use Rattle.arm_laws.proofs.FineArms.{arm_pattern_is_fine}
use Rattle.arm_laws.proofs.laws.arm_pattern_is_fine.Goals as goal

pub returns : goal.returns
returns c = arm_pattern_is_fine
