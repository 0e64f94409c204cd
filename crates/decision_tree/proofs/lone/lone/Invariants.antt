use Rattle.std.proofs.Common.{◌≡◌, ◌++◌, take, drop, map}
use Rattle.keyed_matrix.specs.Views.{plain_rows}
use Rattle.decision_tree.specs.Lone.{lone_row}
use Rattle.decision_tree.proofs.lone.lone.Given as goal

abbrev pub invariant-loop-i : goal.invariant-loop-i
invariant-loop-i g l =
    plain_rows l.rows.items
    ≡ map (lone_row (plain_rows l.fn.rows.items)) (take l.i (plain_rows l.fn.rows.items))
    ++ drop l.i (plain_rows l.fn.rows.items)
