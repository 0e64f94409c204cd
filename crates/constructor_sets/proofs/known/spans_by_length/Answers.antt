use Rattle.std.proofs.Common.{rules}
use Rattle.constructor_sets.specs.Columns.{plain_ctors}
use Rattle.constructor_sets.proofs.KnownSpans.{none_known}
use Rattle.constructor_sets.proofs.Spanning.{more_spans}
use Rattle.constructor_sets.proofs.known.spans_by_length.Goals as goal

pub loop-head-init : goal.loop-head-init
loop-head-init c = (search rules, none_known (plain_ctors c.args.pieces.now) c.in_ok-known.known c.in_ok-known.ensures)

pub loop-head-preserved : goal.loop-head-preserved
loop-head-preserved c = (
  more_spans (plain_ctors c.args.pieces.now) c.args.heads.now c.loop-head.head-index c.head-item.result c.loop-head.spans.items c.push.new.self.items c.known_or_found-span.result
      c.loop-head-test.true c.head-item.is c.in_ok-push.ensures.items c.loop-head.invariant.0 c.known_or_found-span.ensures.span,
  c.known_or_found-span.ensures.known,
)
