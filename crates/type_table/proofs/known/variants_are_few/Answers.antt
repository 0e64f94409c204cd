use Rattle.std.proofs.Common.{subst}
use Rattle.std.proofs.lemmas.List.Elements.{All-more}
use Rattle.type_table.specs.Known.{HasFewFields}
use Rattle.type_table.proofs.known.variants_are_few.Goals as goal

pub loop-variant-preserved : goal.loop-variant-preserved
loop-variant-preserved c =
    All-more HasFewFields c.args.variants.now c.loop-variant.variant-index c.variant-item.result c.loop-variant-test.true c.loop-variant.invariant
    (subst HasFewFields c.variant-item.is (c.has_few_fields.ensures.0 c.if-not-has_few_fields.false))
