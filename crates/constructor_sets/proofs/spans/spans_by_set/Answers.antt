use Rattle.std.proofs.Common.{◌∙◌, ap}
use Rattle.match_model.specs.Constructors.{RowSet}
use Rattle.pat_context.specs.Views.{plain_set}
use Rattle.constructor_sets.proofs.spans.spans_by_set.Goals as goal

pub row_spans-requires-clause-arrays : goal.row_spans-requires-clause-arrays
row_spans-requires-clause-arrays c = λ n e. c.requires.arrays n (ap plain_set c.in-Rows.is ∙ ap RowSet e)
