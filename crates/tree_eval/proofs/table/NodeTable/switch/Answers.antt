use Rattle.std.proofs.Common.{map, length}
use Rattle.pat_context.specs.Places.{steps_of}
use Rattle.pat_context.specs.Views.{plain_place}
use Rattle.tree_eval.specs.Nodes.{plain_branch}
use Rattle.tree_eval.specs.Trees.{table_trees}
use Rattle.tree_eval.proofs.Filled.{below-branches}
use Rattle.tree_eval.proofs.Finishing.{if-switch}
use Rattle.tree_eval.proofs.table.NodeTable.switch.Goals as goal

pub put-requires : goal.put-requires
put-requires c =
    below-branches (length (table_trees c.args.self.now)) (map plain_branch c.args.cases.items) c.requires

pub returns-clause-finished : goal.returns-clause-finished
returns-clause-finished c =
    if-switch (table_trees c.args.self.now) (table_trees c.put.new.self) (plain_place (steps_of c.args.place))
    (map plain_branch c.args.cases.items) c.put.result c.put.ensures.put
