use Rattle.std.proofs.Common.{get_or, arith}
use Rattle.std.proofs.Math.ListN.{length-set}
use Rattle.usefulness.proofs.Placing.{place_next, place_all}
use Rattle.usefulness.proofs.telling.places.Goals as goal

pub index_mut-requires : goal.index_mut-requires
index_mut-requires g c =
    let loop = c.loop-i in
    let ok = loop.places.ok in
    let next = place_next c.args.next c.args.columns.now loop.i c.index-columns-i.result loop.places.items c.requires c.loop-i-test.true c.index-columns-i.is loop.invariant.0 loop.invariant.1 in
    let below = next.0 in
    omega (arith, below, ok)

pub loop-i-preserved : goal.loop-i-preserved
loop-i-preserved g c =
    let loop = c.loop-i in
    let next = place_next c.args.next c.args.columns.now loop.i c.index-columns-i.result loop.places.items c.requires c.loop-i-test.true c.index-columns-i.is loop.invariant.0 loop.invariant.1 in
    (simp length-set loop.invariant.0, next.1)

pub returns-clause-numbered : goal.returns-clause-numbered
returns-clause-numbered g c =
    let loop = c.loop-i in
    let over = c.loop-i-test.false in
    place_all c.args.columns.now loop.i (λ n. get_or loop.places.items n 0) (omega (arith, over)) loop.invariant.1
