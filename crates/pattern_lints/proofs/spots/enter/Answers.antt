use Rattle.std.proofs.Common.{arith}
use Rattle.pattern_arena.specs.Trees.{tree}
use Rattle.pattern_lints.specs.Spots.{spots_in}
use Rattle.pattern_lints.proofs.Entering.{enters-none, enters-lone, lone-smaller}
use Rattle.pattern_lints.proofs.spots.enter.Goals as goal

pub loop-sub-init : goal.loop-sub-init
loop-sub-init g c = record {
  finds = enters-none c.args.finding.now c.args.place (spots_in (tree c.args.p.now));
  size = omega arith;
}

pub loop-sub-preserved : goal.loop-sub-preserved
loop-sub-preserved g c =
    let here = c.loop-sub.here in
    let sub = c.in-Some.sub.now in
    let less = lone-smaller here sub c.in-Some.ensures in
    let within = c.loop-sub.invariant.size in
    record {
      finds = enters-lone c.args.finding.now c.loop-sub.finding c.go_in.new.finding c.args.place (spots_in (tree c.args.p.now)) c.loop-sub.at c.in_ok-below.below here sub
          c.loop-sub.invariant.finds c.in-Some.ensures c.in_ok-below.ensures;
      size = omega (arith, less, within);
    }

pub loop-sub-smaller : goal.loop-sub-smaller
loop-sub-smaller g c = lone-smaller c.loop-sub.here c.in-Some.sub.now c.in-Some.ensures

pub returns : goal.returns
returns g c = c.loop-sub.invariant
