use Rattle.pattern_laws.proofs.JudgedShown.{shown_typed}
use Rattle.pattern_laws.proofs.laws.shown_match_is_well_typed.Goals as goal

pub returns : goal.returns
returns g c = shown_typed _
