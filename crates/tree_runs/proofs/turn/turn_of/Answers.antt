use Rattle.std.proofs.Common.{map}
use Rattle.tree_eval.specs.Nodes.{plain_bind}
use Rattle.tree_eval.specs.Views.{plain_value}
use Rattle.tree_runs.proofs.turn.turn_of.Goals as goal

pub returns-in-Ask : goal.returns-in-Ask
returns-in-Ask c = rw c.in-Ask.is
    (c.asking.ensures c.in-Ask.arm (map plain_bind c.in-Ask.binds.items) (plain_value c.args.value.now))
