use Rattle.std.proofs.Common.{drop, take}
use Rattle.constructor_sets.specs.Columns.{plain_ctors}
use Rattle.constructor_sets.specs.Spans.{AreSpans}
use Rattle.pattern_matrix.specs.Views.{plain_leaves}
use Rattle.pattern_matrix.specs.Halving.{leaf_ctors, AreLeafSpans}
use Rattle.pattern_matrix.specs.Parts.{plain_spans}
use Rattle.pattern_matrix.proofs.spans.leaf_spans.Given as goal

abbrev pub invariant-loop-leaf : goal.invariant-loop-leaf
invariant-loop-leaf g l =
    AreSpans (plain_ctors l.pieces) (leaf_ctors (plain_leaves (drop l.leaf-index l.leaves))) (drop l.used (plain_spans l.spans))
    × AreLeafSpans (plain_ctors l.pieces) (plain_leaves (take l.leaf-index l.leaves)) (plain_spans l.all.items)
