use Rattle.std.proofs.Common.{take}
use Rattle.keyed_matrix.specs.Views.{plain_rows}
use Rattle.decision_tree.specs.WildColumns.{AreWildMarks}
use Rattle.decision_tree.proofs.wild.wild_columns.Given as goal

abbrev pub invariant-loop-row : goal.invariant-loop-row
invariant-loop-row g l = AreWildMarks l.columns (plain_rows (take l.row-index l.rows)) l.marks.items
