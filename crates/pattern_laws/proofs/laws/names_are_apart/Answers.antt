use Rattle.pattern_laws.proofs.ArmsKept.{names_apart}
use Rattle.pattern_laws.proofs.laws.names_are_apart.Goals as goal

pub returns : goal.returns
returns c = names_apart
