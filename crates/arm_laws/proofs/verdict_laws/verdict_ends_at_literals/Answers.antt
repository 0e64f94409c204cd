use Rattle.arm_laws.proofs.VerdictKept.{verdict_ends_at_literals}
use Rattle.arm_laws.proofs.verdict_laws.verdict_ends_at_literals.Goals as goal

pub returns : goal.returns
returns c = verdict_ends_at_literals
