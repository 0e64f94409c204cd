use Rattle.std.proofs.Common.{map, take}
use Rattle.match_model.specs.Constructors.{VariantCtor}
use Rattle.constructor_sets.specs.Columns.{plain_ctors}
use Rattle.constructor_sets.specs.Spans.{AreSpans, plain_span}
use Rattle.constructor_sets.proofs.variants.variant_spans.Given as goal

abbrev pub invariant-loop-head : goal.invariant-loop-head
invariant-loop-head l = AreSpans (map VariantCtor l.numbers) (plain_ctors (take l.head-index l.heads)) (map plain_span l.spans.items)
