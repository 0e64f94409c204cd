use Rattle.tree_runs.proofs.Entered.{one_length, longer_length, too_short}
use Rattle.tree_runs.proofs.cases.case_has_row.Goals as goal

pub returns-in-Length : goal.returns-in-Length
returns-in-Length c = rw c.in-Length.is (one_length c.args.items.now c.in-Length.n)

pub returns-then-front-count : goal.returns-then-front-count
returns-then-front-count c =
    rw c.in-Longer.is (longer_length c.args.items.now c.in-Longer.front c.in-Longer.back c.if-front-count.true)

pub returns-else-front-count : goal.returns-else-front-count
returns-else-front-count c =
    rw c.in-Longer.is (too_short c.args.items.now c.in-Longer.front c.in-Longer.back c.if-front-count.false)
