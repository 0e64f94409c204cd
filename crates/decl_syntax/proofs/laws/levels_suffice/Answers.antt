use Rattle.decl_syntax.proofs.LevelLaws.{levels_suffice}
use Rattle.decl_syntax.proofs.laws.levels_suffice.Goals as goal

pub returns : goal.returns
returns c = levels_suffice
