use Rattle.keyed_rows.proofs.ArmNumbers.{arms-numbered}
use Rattle.keyed_rows.proofs.arms_are_numbered.Goals as goal

pub returns : goal.returns
returns g c = λ m d. arms-numbered m d
