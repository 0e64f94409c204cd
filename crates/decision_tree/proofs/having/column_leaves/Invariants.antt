use Rattle.std.proofs.Common.{◌≡◌, take}
use Rattle.pattern_matrix.specs.Views.{plain_leaves}
use Rattle.keyed_matrix.specs.Views.{plain_rows}
use Rattle.decision_tree.specs.Cuts.{column_leaves}
use Rattle.decision_tree.proofs.having.column_leaves.Given as goal

abbrev pub invariant-loop-row : goal.invariant-loop-row
invariant-loop-row g l = plain_leaves l.leaves.items ≡ column_leaves l.i (plain_rows (take l.row-index l.rows))
