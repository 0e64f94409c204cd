use Rattle.std.proofs.Common.{sym, ◌∙◌}
use Rattle.constructor_sets.proofs.VariantSpans.{tested}
use Rattle.constructor_sets.proofs.variants.number_span.Goals as goal

pub returns-then-stands_at : goal.returns-then-stands_at
returns-then-stands_at c = tested c.args.numbers.now c.args.k c.likely_place-place.result c.requires (sym c.stands_at.ensures ∙ c.if-stands_at.true)
