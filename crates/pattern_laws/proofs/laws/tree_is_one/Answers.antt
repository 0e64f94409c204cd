use Rattle.pattern_laws.proofs.EngineTrees.{one_tree}
use Rattle.pattern_laws.proofs.laws.tree_is_one.Goals as goal

pub returns : goal.returns
returns c = one_tree
