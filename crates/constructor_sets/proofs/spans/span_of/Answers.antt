use Rattle.pat_context.specs.Views.{plain_ctor}
use Rattle.constructor_sets.proofs.Spanning.{spanned_by}
use Rattle.constructor_sets.proofs.spans.span_of.Goals as goal

pub returns : goal.returns
returns c = spanned_by (plain_ctor c.args.head.now) c.args.pieces.now c.first_of-first.result c.end_of-end.result c.first_of-first.ensures c.end_of-end.ensures
