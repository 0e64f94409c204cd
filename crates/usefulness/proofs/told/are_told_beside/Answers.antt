use Rattle.std.proofs.Common.{arith}
use Rattle.std.specs.List.{Contains}
use Rattle.usefulness.specs.Memo.{told_beside}
use Rattle.usefulness.proofs.Writing.{all_next, all_gone}
use Rattle.usefulness.proofs.told.are_told_beside.Goals as goal

pub loop-one-preserved : goal.loop-one-preserved
loop-one-preserved c =
    let loop = c.loop-one in
    all_next (λ z. Contains c.args.told.now.chosen.keys (told_beside c.args.list z)) c.args.chosen.now loop.one-index _ c.loop-one-test.true loop.invariant
    (c.is_told_beside.ensures c.if-not-is_told_beside.false)

pub returns : goal.returns
returns c = λ e.
    let loop = c.loop-one in
    let over = c.loop-one-test.false in
    all_gone (λ z. Contains c.args.told.now.chosen.keys (told_beside c.args.list z)) c.args.chosen.now loop.one-index (omega (arith, over)) loop.invariant
