use Rattle.arm_laws.proofs.NamedOnce.{names_stand_once}
use Rattle.arm_laws.proofs.takes_laws.names_stand_once.Goals as goal

pub returns : goal.returns
returns c = names_stand_once
