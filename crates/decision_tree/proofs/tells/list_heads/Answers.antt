use Rattle.std.proofs.Common.{ap}
use Rattle.std.specs.List.{flat_map}
use Rattle.decision_tree.specs.Known.{head_uid}
use Rattle.decision_tree.specs.KnownViews.{plain_known_heads}
use Rattle.decision_tree.proofs.RunTests.{mapped-on}
use Rattle.decision_tree.proofs.tells.list_heads.Goals as goal

pub loop-one-preserved : goal.loop-one-preserved
loop-one-preserved g c =
    let loop = c.loop-one in
    mapped-on c.args.heads.now loop.one-index c.one-item.result c.loop-one-test.true c.one-item.is head_uid
    (flat_map plain_known_heads loop.all.items) (flat_map plain_known_heads c.add_run.new.all.items) loop.invariant
    c.in_ok-add_run.ensures

pub loop-one-init : goal.loop-one-init
loop-one-init g c = ap (flat_map plain_known_heads) c.clear.ensures.items
