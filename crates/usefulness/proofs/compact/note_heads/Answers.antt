use Rattle.std.proofs.Common.{◌||◌, false, length, get_or, arith}
use Rattle.std.proofs.Math.ListN.{length-set}
use Rattle.pattern_matrix.specs.Views.{plain_heads}
use Rattle.usefulness.specs.Compact.{lists_at}
use Rattle.usefulness.proofs.Noting.{note_step, column_below}
use Rattle.usefulness.proofs.compact.note_heads.Goals as goal

pub index_mut-requires : goal.index_mut-requires
index_mut-requires g c =
    let loop = c.loop-head in
    let below = column_below (length c.args.used.now.items) c.args.heads.now loop.head-index c.head-item.result c.requires c.loop-head-test.true c.head-item.is in
    let long = loop.invariant.0 in
    let ok = loop.used.ok in
    omega (arith, below, long, ok)

pub loop-head-preserved : goal.loop-head-preserved
loop-head-preserved g c =
    let loop = c.loop-head in
    let below = column_below (length c.args.used.now.items) c.args.heads.now loop.head-index c.head-item.result c.requires c.loop-head-test.true c.head-item.is in
    let long = loop.invariant.0 in (
      simp length-set long,
      λ n. note_step c.args.heads.now loop.head-index c.head-item.result loop.used.items n (get_or c.args.used.now.items n false || lists_at (plain_heads c.args.heads.now) n)
          c.loop-head-test.true c.head-item.is (omega (arith, below, long)) (loop.invariant.1 n),
    )
