use Rattle.std.proofs.Common.{sym}
use Rattle.decision_tree.specs.contracts.known.KnownMatrixPartialEq.TheImpl as matrix_eq
use Rattle.decision_tree.specs.KnownViews.{plain_known_matrix}
use Rattle.decision_tree.proofs.SameKnown.{same-matrix, found-among}
use Rattle.decision_tree.proofs.known.find_known.Goals as goal

pub returns-in-Some : goal.returns-in-Some
returns-in-Some c =
    found-among plain_known_matrix (λ k. matrix_eq.ghosts.eq c.args.matrix.now k) (plain_known_matrix c.args.matrix.now)
    c.args.known.now.of.entries c.in-Some.index.now (λ k h. sym (same-matrix c.args.matrix.now k h))
    (sym c.in-Some.ensures.value)
