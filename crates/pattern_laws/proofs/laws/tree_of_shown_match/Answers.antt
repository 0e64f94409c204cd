use Rattle.pattern_laws.proofs.EngineTrees.{tree_of_shown}
use Rattle.pattern_laws.proofs.laws.tree_of_shown_match.Goals as goal

pub returns : goal.returns
returns g c = tree_of_shown _
