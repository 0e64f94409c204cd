use Rattle.std.proofs.Common.{◌≡◌}
use Rattle.keyed_matrix.specs.Views.{plain_columns, plain_rows}
use Rattle.decision_tree.specs.WildColumns.{unmarked_row}
use Rattle.decision_tree.proofs.Changed.{changed}
use Rattle.decision_tree.proofs.wild.unmarked_rows.Given as goal

abbrev pub invariant-loop-i : goal.invariant-loop-i
invariant-loop-i g l =
    plain_rows l.rows.items ≡ changed (unmarked_row l.marks (plain_columns l.columns)) (plain_rows l.fn.rows.items) l.i
