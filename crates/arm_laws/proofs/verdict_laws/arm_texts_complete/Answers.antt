use Rattle.arm_laws.proofs.ArmsDone.{arm_texts_complete}
use Rattle.arm_laws.proofs.verdict_laws.arm_texts_complete.Goals as goal

pub returns : goal.returns
returns c = arm_texts_complete
