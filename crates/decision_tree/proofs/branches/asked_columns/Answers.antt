use Rattle.decision_tree.specs.Asked.{asks}
use Rattle.decision_tree.proofs.RunTests.{mapped-on}
use Rattle.decision_tree.proofs.branches.asked_columns.Goals as goal

pub loop-one-preserved : goal.loop-one-preserved
loop-one-preserved g c =
    let loop = c.loop-one in
    mapped-on c.args.heads.now loop.one-index c.one-item.result c.loop-one-test.true c.one-item.is asks loop.all.items
    c.add_asked.new.all.items loop.invariant c.in_ok-add_asked.ensures
