use Rattle.std.proofs.Common.{subst, map}
use Rattle.match_model.specs.Lists.{Among}
use Rattle.decision_tree.specs.contracts.known.KnownMatrixPartialEq.TheImpl as matrix_eq
use Rattle.decision_tree.specs.KnownViews.{plain_known_matrix}
use Rattle.decision_tree.proofs.SameKnown.{same-matrix, noted-among}
use Rattle.decision_tree.proofs.known.note_known.Goals as goal

pub returns : goal.returns
returns c = λ e i.
    noted-among plain_known_matrix (λ x y. matrix_eq.ghosts.eq x y) c.args.matrix c.args.index
    c.args.known.now.of.entries (same-matrix c.args.matrix) e
    (subst (λ es. Among e (map (λ x. (plain_known_matrix x.0, x.1)) es)) c.in_ok-insert.ensures.entries i)
