use Rattle.std.proofs.Common.{map}
use Rattle.tree_eval.specs.Nodes.{plain_bind}
use Rattle.tree_eval.specs.Trees.{table_trees}
use Rattle.tree_eval.proofs.Finishing.{if-ask}
use Rattle.tree_eval.proofs.table.NodeTable.ask.Goals as goal

pub returns-clause-finished : goal.returns-clause-finished
returns-clause-finished c =
    if-ask (table_trees c.args.self.now) (table_trees c.put.new.self) c.args.arm (map plain_bind c.args.binds.items)
    c.args.no c.put.result c.put.ensures.put
