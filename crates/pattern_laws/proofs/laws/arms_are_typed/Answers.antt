use Rattle.pattern_laws.proofs.ArmsKept.{arms_typed}
use Rattle.pattern_laws.proofs.laws.arms_are_typed.Goals as goal

pub returns : goal.returns
returns c = arms_typed
