use Rattle.std.proofs.Common.{map, take}
use Rattle.constructor_sets.specs.Columns.{plain_ctors}
use Rattle.constructor_sets.specs.Known.{AreKnown}
use Rattle.constructor_sets.specs.Spans.{AreSpans, plain_span}
use Rattle.constructor_sets.proofs.known.spans_by_length.Given as goal

abbrev pub invariant-loop-head : goal.invariant-loop-head
invariant-loop-head l = AreSpans (plain_ctors l.pieces) (plain_ctors (take l.head-index l.heads)) (map plain_span l.spans.items) × AreKnown (plain_ctors l.pieces) l.known
