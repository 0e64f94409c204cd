use Rattle.std.proofs.Common.{map}
use Rattle.match_model.specs.Constructors.{VariantCtor}
use Rattle.constructor_sets.proofs.Spanning.{more_spans}
use Rattle.constructor_sets.proofs.variants.variant_spans.Goals as goal

pub loop-head-preserved : goal.loop-head-preserved
loop-head-preserved c =
    more_spans (map VariantCtor c.args.numbers.now) c.args.heads.now c.loop-head.head-index c.head-item.result c.loop-head.spans.items c.push.new.self.items c.variant_span-span.result
    c.loop-head-test.true c.head-item.is c.in_ok-push.ensures.items c.loop-head.invariant c.variant_span-span.ensures
