use Rattle.pat_context.specs.Views.{plain_ctor}
use Rattle.constructor_sets.proofs.Spanning.{spanned_by}
use Rattle.constructor_sets.proofs.spans.guided_span.Goals as goal

pub returns : goal.returns
returns c = spanned_by (plain_ctor c.args.head.now) c.args.pieces.now c.guided_first-first.result c.guided_end-end.result c.guided_first-first.ensures c.guided_end-end.ensures
