use Rattle.arm_laws.proofs.Spelled.{arm_of_witness_spells}
use Rattle.arm_laws.proofs.laws.arm_of_witness_spells.Goals as goal

pub returns : goal.returns
returns c = arm_of_witness_spells
