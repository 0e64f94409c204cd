use Rattle.std.proofs.Common.{arith}
use Rattle.pattern_lints.proofs.HullLaws.{known-only, only-smaller}
use Rattle.pattern_lints.proofs.hulls.behind_only_parts.Goals as goal

pub loop-sub-init : goal.loop-sub-init
loop-sub-init g c = record { known = λ h k. k; size = omega arith }

pub loop-sub-preserved : goal.loop-sub-preserved
loop-sub-preserved g c =
    let here = c.loop-sub.here in
    let sub = c.in-Some.sub.now in
    let less = only-smaller here sub c.in-Some.ensures in
    let within = c.loop-sub.invariant.size in
    record {
      known = λ h k. c.loop-sub.invariant.known h (known-only h here sub c.in-Some.ensures k);
      size = omega (arith, less, within);
    }

pub loop-sub-smaller : goal.loop-sub-smaller
loop-sub-smaller g c = only-smaller c.loop-sub.here c.in-Some.sub.now c.in-Some.ensures

pub returns : goal.returns
returns g c = c.loop-sub.invariant
