use Rattle.arm_laws.proofs.PatternTakes.{arm_pattern_takes}
use Rattle.arm_laws.proofs.takes_laws.arm_pattern_takes.Goals as goal

pub returns : goal.returns
returns c = arm_pattern_takes
