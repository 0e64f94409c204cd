use Rattle.std.proofs.Common.{◌≡◌, ◌<◌, ap, take, length, subst, arith}
use Rattle.keyed_matrix.specs.Views.{plain_run, plain_heads}
use Rattle.keyed_matrix.proofs.HeadRuns.{same-got, long-until, all-until}
use Rattle.keyed_matrix.proofs.heads.run_of.Goals as goal

pub returns-then-left-size-clause-inside : goal.returns-then-left-size-clause-inside
returns-then-left-size-clause-inside g c d =
    let size = c.size_of-size.ensures in
    subst (λ x. c.loop-k.left < length (plain_run x))
    (same-got c.args.heads.now c.loop-k.k c.index-heads-k.result d c.loop-k-test.true c.index-heads-k.is)
    (omega (arith, size, c.if-left-size.true))

pub loop-k-preserved : goal.loop-k-preserved
loop-k-preserved g c =
    let loop = c.loop-k in
    let next = long-until c.args.heads.now loop.k c.index-heads-k.result c.loop-k-test.true c.index-heads-k.is in
    let size = c.size_of-size.ensures in
    let sum = loop.invariant in
    omega (arith, next, size, sum, c.if-left-size.false)

pub returns : goal.returns
returns g c =
    let whole : length (plain_heads (take c.loop-k.k c.args.heads.now)) ≡ length (plain_heads c.args.heads.now) =
    ap length (all-until c.args.heads.now c.loop-k.k c.loop-k-test.false) in
    let sum = c.loop-k.invariant in
    absurd (omega (arith, whole, sum, c.requires))
