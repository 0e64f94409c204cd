use Rattle.arm_laws.proofs.Telling.{earlier_takes_none}
use Rattle.arm_laws.proofs.laws.earlier_takes_none.Goals as goal

pub returns : goal.returns
returns c = earlier_takes_none
