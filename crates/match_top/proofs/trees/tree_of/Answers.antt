use Rattle.match_top.proofs.Matches.{tree_for}
use Rattle.match_top.proofs.trees.tree_of.Goals as goal

pub returns-in_ok-tree-in-Trees : goal.returns-in_ok-tree-in-Trees
returns-in_ok-tree-in-Trees c = λ whole f h. tree_for c.args.command c.args.source.now whole f c.in_ok-tree-in-Trees.tree c.in-Trees.is (c.in_ok-tree-in-Trees.ensures whole f h)
