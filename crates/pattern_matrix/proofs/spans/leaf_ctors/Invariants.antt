use Rattle.std.proofs.Common.{◌≡◌, ◌++◌, drop}
use Rattle.constructor_sets.specs.Columns.{plain_ctors}
use Rattle.pattern_matrix.specs.Views.{plain_leaves}
use Rattle.pattern_matrix.specs.Halving.{leaf_ctors}
use Rattle.pattern_matrix.proofs.spans.leaf_ctors.Given as goal

abbrev pub invariant-loop-leaf : goal.invariant-loop-leaf
invariant-loop-leaf g l = plain_ctors l.ctors.items ++ leaf_ctors (plain_leaves (drop l.leaf-index l.leaves)) ≡ leaf_ctors (plain_leaves l.leaves)
