use Rattle.arm_laws.proofs.VerdictKept.{verdict_texts_are_referred}
use Rattle.arm_laws.proofs.verdict_laws.verdict_texts_are_referred.Goals as goal

pub returns : goal.returns
returns c = verdict_texts_are_referred
