use Rattle.constructor_sets.proofs.VariantSpans.{no_variant}
use Rattle.constructor_sets.proofs.variants.variant_span.Goals as goal

pub returns-in_default : goal.returns-in_default
returns-in_default c = no_variant c.args.numbers.now c.args.head.now c.in_default.not-Variant c.in_default.not-Wild
