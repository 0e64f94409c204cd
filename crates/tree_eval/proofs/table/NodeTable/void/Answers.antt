use Rattle.tree_eval.specs.Trees.{table_trees}
use Rattle.tree_eval.proofs.Finishing.{if-void}
use Rattle.tree_eval.proofs.table.NodeTable.void.Goals as goal

pub returns-clause-finished : goal.returns-clause-finished
returns-clause-finished c = if-void (table_trees c.args.self.now) (table_trees c.put.new.self) c.put.result c.put.ensures.put
