use Rattle.std.proofs.Common.{take}
use Rattle.constructor_sets.specs.Columns.{plain_ctors}
use Rattle.pattern_matrix.specs.Halving.{leaf_ctors}
use Rattle.pattern_matrix.specs.Views.{plain_leaves}
use Rattle.pattern_matrix.specs.Distinct.{AreDistinct}
use Rattle.pattern_matrix.proofs.distinct.distinct_ctors.Given as goal

abbrev pub invariant-loop-leaf : goal.invariant-loop-leaf
invariant-loop-leaf g l = AreDistinct (leaf_ctors (plain_leaves (take l.leaf-index l.leaves))) (plain_ctors l.heads.ctors.items) l.heads.numbers.items
