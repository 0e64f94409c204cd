use Rattle.arm_laws.proofs.SpelledNumbers.{numbers_are_meant}
use Rattle.arm_laws.proofs.takes_laws.numbers_are_meant.Goals as goal

pub returns : goal.returns
returns c = numbers_are_meant
