use Rattle.pattern_laws.proofs.ShownKept.{names_shown}
use Rattle.pattern_laws.proofs.laws.shown_names_differ.Goals as goal

pub returns : goal.returns
returns g c = names_shown _
