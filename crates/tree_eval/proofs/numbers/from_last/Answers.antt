use Rattle.std.proofs.Common.{map, subst}
use Rattle.tree_eval.specs.Nodes.{plain_branch, plain_node}
use Rattle.tree_eval.specs.Tables.{GoesBelow}
use Rattle.tree_eval.specs.declared.tree.Node.{Node}
use Rattle.tree_eval.proofs.Filled.{branches-below}
use Rattle.tree_eval.proofs.numbers.from_last.Goals as goal

pub cases_from_last-requires : goal.cases_from_last-requires
cases_from_last-requires c =
    let P : Node → Type 0 = λ x. GoesBelow c.args.count (plain_node x) in
    branches-below c.args.count (map plain_branch c.in-Switch.cases.items) (subst P c.in-Switch.is c.requires)
