use Rattle.std.proofs.Common.{◌∙◌, ap, subst, sym}
use Rattle.pattern_matrix.specs.Sparse.{row_views, AreOver, AreBelow}
use Rattle.pattern_matrix.specs.Views.{plain_rows, plain_leaves}
use Rattle.pattern_matrix.proofs.Opened.{dropped_views}
use Rattle.pattern_matrix.proofs.Within.{dropped_over, dropped_below}
use Rattle.pattern_matrix.proofs.opening.wild_rows.Goals as goal

pub returns-clause-rows : goal.returns-clause-rows
returns-clause-rows g c = λ place others apart.
    ap (row_views others) c.in_ok-dropped.ensures ∙ dropped_views place c.args.column others apart (plain_rows c.args.rows.now) (plain_leaves c.args.leaves.now)

pub returns-clause-over : goal.returns-clause-over
returns-clause-over g c = λ others over.
    subst (AreOver others) (sym c.in_ok-dropped.ensures) (dropped_over c.args.column others (plain_rows c.args.rows.now) (plain_leaves c.args.leaves.now) over)

pub returns-clause-within : goal.returns-clause-within
returns-clause-within g c = λ end below.
    subst (AreBelow end) (sym c.in_ok-dropped.ensures) (dropped_below c.args.column end (plain_rows c.args.rows.now) (plain_leaves c.args.leaves.now) below)
