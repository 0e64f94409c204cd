use Rattle.arm_laws.proofs.Offsets.{offsets_are_alone}
use Rattle.arm_laws.proofs.takes_laws.offsets_are_alone.Goals as goal

pub returns : goal.returns
returns c = offsets_are_alone
