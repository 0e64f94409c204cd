use Rattle.arm_laws.proofs.Meaning.{meant_is_taken}
use Rattle.arm_laws.proofs.laws.meant_is_taken.Goals as goal

pub returns : goal.returns
returns c = meant_is_taken
