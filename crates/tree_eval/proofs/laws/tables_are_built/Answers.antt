use Rattle.tree_eval.specs.Tables.{finished_nodes}
use Rattle.tree_eval.proofs.Built.{built}
use Rattle.tree_eval.proofs.laws.tables_are_built.Goals as goal

pub returns : goal.returns
returns c = built (finished_nodes c.args.table.now.nodes.keys) c.args.table.now.whole.back
