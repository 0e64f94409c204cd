use Rattle.pattern_matrix.proofs.Keeping.{more_spans}
use Rattle.pattern_matrix.proofs.found.spans_at.Goals as goal

pub loop-k-preserved : goal.loop-k-preserved
loop-k-preserved c =
    let i = c.loop-k.k-index in
    more_spans c.args.spans.now c.loop-k.all.items c.push.new.self.items c.args.numbers.now i _ c.loop-k-test.true (c.requires i 0 c.loop-k-test.true) c.in_ok-push.ensures.items c.loop-k.invariant
