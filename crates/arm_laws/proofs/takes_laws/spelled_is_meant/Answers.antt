use Rattle.arm_laws.proofs.SpelledMeant.{spelled_is_meant}
use Rattle.arm_laws.proofs.takes_laws.spelled_is_meant.Goals as goal

pub returns : goal.returns
returns c = spelled_is_meant
