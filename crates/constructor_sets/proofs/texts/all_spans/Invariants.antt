use Rattle.std.proofs.Common.{map, take}
use Rattle.constructor_sets.specs.Columns.{plain_ctors}
use Rattle.constructor_sets.specs.Spans.{AreSpans, plain_span}
use Rattle.constructor_sets.proofs.texts.all_spans.Given as goal

abbrev pub invariant-loop-place : goal.invariant-loop-place
invariant-loop-place l = AreSpans (plain_ctors l.pieces) (plain_ctors (take l.place l.heads)) (map plain_span l.spans.items)
