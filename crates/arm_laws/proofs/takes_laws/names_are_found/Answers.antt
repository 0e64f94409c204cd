use Rattle.arm_laws.proofs.NamesFound.{names_are_found}
use Rattle.arm_laws.proofs.takes_laws.names_are_found.Goals as goal

pub returns : goal.returns
returns c = names_are_found
