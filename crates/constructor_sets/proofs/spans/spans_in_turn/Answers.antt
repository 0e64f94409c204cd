use Rattle.constructor_sets.specs.Columns.{plain_ctors}
use Rattle.constructor_sets.proofs.Spanning.{more_spans}
use Rattle.constructor_sets.proofs.spans.spans_in_turn.Goals as goal

pub loop-head-preserved : goal.loop-head-preserved
loop-head-preserved c =
    more_spans (plain_ctors c.args.pieces.now) c.args.heads.now c.loop-head.head-index c.head-item.result c.loop-head.spans.items c.push.new.self.items c.guided_span-span.result
    c.loop-head-test.true c.head-item.is c.in_ok-push.ensures.items c.loop-head.invariant c.guided_span-span.ensures
