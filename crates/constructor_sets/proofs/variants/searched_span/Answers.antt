use Rattle.constructor_sets.proofs.VariantSpans.{found_span, gone_span}
use Rattle.constructor_sets.proofs.variants.searched_span.Goals as goal

pub returns-in-Ok : goal.returns-in-Ok
returns-in-Ok c = found_span c.args.numbers.now c.args.k c.binary_search.result c.in-Ok.place c.requires c.binary_search.ensures.position c.in-Ok.is

pub returns-in-Err : goal.returns-in-Err
returns-in-Err c = gone_span c.args.numbers.now c.args.k c.binary_search.result c.in-Err.place c.requires c.binary_search.ensures.position c.in-Err.is
