use Rattle.arm_laws.proofs.Spelled.{arm_text_spells}
use Rattle.arm_laws.proofs.laws.arm_text_spells.Goals as goal

pub returns : goal.returns
returns c = arm_text_spells
