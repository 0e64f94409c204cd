use Rattle.std.proofs.Common.{subst, sym}
use Rattle.keyed_matrix.specs.Deciding.{table_decides}
use Rattle.keyed_matrix.specs.Views.{plain_columns, plain_rows}
use Rattle.decision_tree.specs.Matrices.{matrix_columns, matrix_rows, IsTypedMatrix}
use Rattle.decision_tree.proofs.TypedRows.{typed-of}
use Rattle.decision_tree.proofs.lowering.look_next.Goals as goal

pub place_of-requires-clause-typed : goal.place_of-requires-clause-typed
place_of-requires-clause-typed g c =
    let IsType = g.C.PatCx.is_type c.args.cx.now in
    let context = g.C.PatCx.context c.args.cx.now in
    let m = c.args.m in
    subst (λ cs. IsTypedMatrix IsType context (plain_columns cs) (plain_rows c.deref-2.result.now)) (sym c.deref.ensures.value)
    (subst (λ rs. IsTypedMatrix IsType context (matrix_columns m) (plain_rows rs)) (sym c.deref-2.ensures.value)
    (typed-of IsType context (table_decides c.args.decisions.now) (matrix_columns m) (matrix_rows m)
    c.requires.1.1.1.1.0.good))
