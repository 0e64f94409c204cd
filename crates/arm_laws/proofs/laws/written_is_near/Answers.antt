use Rattle.arm_laws.proofs.Written.{written_is_near}
use Rattle.arm_laws.proofs.laws.written_is_near.Goals as goal

pub returns : goal.returns
returns c = written_is_near
