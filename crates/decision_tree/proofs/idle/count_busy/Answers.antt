use Rattle.std.proofs.Common.{arith}
use Rattle.decision_tree.specs.Idle.{is_idle}
use Rattle.keyed_matrix.specs.Views.{plain_heads}
use Rattle.decision_tree.specs.Cutting.{count_unless}
use Rattle.decision_tree.proofs.RunTests.{open-on, open-end}
use Rattle.decision_tree.proofs.idle.count_busy.Goals as goal

pub loop-one-preserved : goal.loop-one-preserved
loop-one-preserved g c =
    let loop = c.loop-one in
    record {
      sum =
          open-on c.args.heads.now loop.one-index c.one-item.result c.loop-one-test.true c.one-item.is is_idle loop.count
          c.busy_in-count.result (count_unless is_idle (plain_heads c.args.heads.now)) loop.invariant.sum c.busy_in-count.ensures.is;
      few = (let few = loop.invariant.few in let one = c.busy_in-count.ensures.few in omega (arith, few, one));
    }

pub returns : goal.returns
returns g c =
    let loop = c.loop-one in
    open-end is_idle c.args.heads.now loop.one-index loop.count (count_unless is_idle (plain_heads c.args.heads.now)) c.loop-one-test.false
    loop.invariant.sum
