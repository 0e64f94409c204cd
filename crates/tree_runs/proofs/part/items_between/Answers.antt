use Rattle.std.proofs.Common.{refl, arith}
use Rattle.tree_runs.proofs.Entered.{between_there}
use Rattle.tree_runs.proofs.part.items_between.Goals as goal

pub returns-then-back-count : goal.returns-then-back-count
returns-then-back-count c = between_there c.args.items.now c.args.front c.args.back _ (omega arith) refl
