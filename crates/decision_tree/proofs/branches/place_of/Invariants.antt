use Rattle.keyed_matrix.specs.Views.{plain_columns, plain_rows}
use Rattle.decision_tree.proofs.FewestSoFar.{IsBestOf}
use Rattle.decision_tree.proofs.branches.place_of.Given as goal

abbrev pub invariant-loop-i : goal.invariant-loop-i
invariant-loop-i g l =
    IsBestOf (g.C.PatCx.context l.cx) (g.C.PatCx.is_value l.cx) (plain_columns l.columns) (plain_rows l.rows) l.i l.best
