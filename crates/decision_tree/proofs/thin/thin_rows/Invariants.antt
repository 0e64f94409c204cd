use Rattle.std.proofs.Common.{◌≡◌}
use Rattle.keyed_matrix.specs.Views.{plain_rows}
use Rattle.decision_tree.specs.Thin.{thin_row}
use Rattle.decision_tree.proofs.Changed.{changed}
use Rattle.decision_tree.proofs.thin.thin_rows.Given as goal

abbrev pub invariant-loop-i : goal.invariant-loop-i
invariant-loop-i g l = plain_rows l.rows.items ≡ changed thin_row (plain_rows l.fn.rows.items) l.i
