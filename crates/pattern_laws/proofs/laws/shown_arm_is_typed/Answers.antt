use Rattle.pattern_laws.proofs.TypedShown.{typed_shown}
use Rattle.pattern_laws.proofs.laws.shown_arm_is_typed.Goals as goal

pub returns : goal.returns
returns g c = typed_shown _
