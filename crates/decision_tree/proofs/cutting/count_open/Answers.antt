use Rattle.std.proofs.Common.{arith}
use Rattle.match_model.specs.Rows.{is_wild}
use Rattle.keyed_matrix.specs.Views.{plain_heads}
use Rattle.decision_tree.specs.Cutting.{open_count}
use Rattle.decision_tree.proofs.RunTests.{open-on, open-end}
use Rattle.decision_tree.proofs.cutting.count_open.Goals as goal

pub loop-one-preserved : goal.loop-one-preserved
loop-one-preserved g c =
    let loop = c.loop-one in
    record {
      sum =
          open-on c.args.heads.now loop.one-index c.one-item.result c.loop-one-test.true c.one-item.is is_wild loop.count
          c.open_in-count.result (open_count (plain_heads c.args.heads.now)) loop.invariant.sum c.open_in-count.ensures.is;
      few = (let few = loop.invariant.few in let one = c.open_in-count.ensures.few in omega (arith, few, one));
    }

pub returns : goal.returns
returns g c =
    let loop = c.loop-one in
    open-end is_wild c.args.heads.now loop.one-index loop.count (open_count (plain_heads c.args.heads.now)) c.loop-one-test.false
    loop.invariant.sum
