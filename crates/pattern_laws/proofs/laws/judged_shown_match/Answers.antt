use Rattle.pattern_laws.proofs.JudgedShown.{judged_shown}
use Rattle.pattern_laws.proofs.laws.judged_shown_match.Goals as goal

pub returns : goal.returns
returns g c = judged_shown _
