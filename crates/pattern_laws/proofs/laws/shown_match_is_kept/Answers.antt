use Rattle.pattern_laws.proofs.ShownKept.{match_kept}
use Rattle.pattern_laws.proofs.laws.shown_match_is_kept.Goals as goal

pub returns : goal.returns
returns g c = match_kept _
