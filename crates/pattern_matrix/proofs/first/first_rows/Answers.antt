use Rattle.std.proofs.Common.{[], ◌∷◌, ◌∙◌, ap, map, subst, sym}
use Rattle.pattern_arena.specs.Trees.{plain_arm}
use Rattle.pattern_matrix.specs.Sparse.{row_views, AreBelow, AreOver}
use Rattle.pattern_matrix.proofs.Starting.{rows_stand, rows_below}
use Rattle.pattern_matrix.proofs.Within.{starting_over}
use Rattle.pattern_matrix.proofs.first.first_rows.Goals as goal

pub returns-clause-rows : goal.returns-clause-rows
returns-clause-rows g c = ap (row_views (0 ∷ [])) c.in_ok-rows.ensures ∙ rows_stand 0 (map plain_arm c.args.m.now.arms.now)

pub returns-clause-over : goal.returns-clause-over
returns-clause-over g c = subst (AreOver (0 ∷ [])) (sym c.in_ok-rows.ensures) (starting_over 0 (map plain_arm c.args.m.now.arms.now))

pub returns-clause-within : goal.returns-clause-within
returns-clause-within g c = subst (AreBelow 1) (sym c.in_ok-rows.ensures) (rows_below 0 (map plain_arm c.args.m.now.arms.now))
