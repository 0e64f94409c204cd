use Rattle.std.proofs.Common.{◌++◌}
use Rattle.match_model.specs.Rows.{wildcards}
use Rattle.keyed_matrix.specs.Views.{plain_heads}
use Rattle.decision_tree.specs.Thin.{thin_head}
use Rattle.decision_tree.proofs.RunTests.{mapped-on}
use Rattle.decision_tree.proofs.thin.thin_heads.Goals as goal

pub loop-one-preserved : goal.loop-one-preserved
loop-one-preserved g c =
    let loop = c.loop-one in
    mapped-on c.args.heads.now loop.one-index c.one-item.result c.loop-one-test.true c.one-item.is thin_head
    (plain_heads loop.all.items ++ wildcards loop.waiting)
    (plain_heads c.add_thin.new.all.items ++ wildcards c.in_ok-waiting.waiting) loop.invariant c.in_ok-waiting.ensures
