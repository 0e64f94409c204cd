use Rattle.std.proofs.Common.{refl, reverse}
use Rattle.keyed_matrix.specs.Deciding.{table_decides}
use Rattle.tree_eval.specs.Trees.{table_trees}
use Rattle.decision_tree.specs.declared.frames.Matrix.{Matrix}
use Rattle.decision_tree.proofs.ThinMatrix.{IsThinOf, thin-turn}
use Rattle.decision_tree.proofs.lowering.lower_thin.Goals as goal

pub returns : goal.returns
returns g c =
    let cx = c.args.cx.now in
    let m = c.args.m in
    let next : Matrix g.row.C-Ty.Denot = record { columns = m.columns; rows = c.in_ok-rows.rows } in
    let thin : IsThinOf m next = record { columns = refl; rows = c.in_ok-rows.ensures } in
    thin-turn (g.C.PatCx.is_type cx) (g.C.PatCx.context cx) (g.C.PatCx.is_value cx) (table_decides c.args.decisions.now) g.root
    (g.met.C.PatCx.parts cx) (g.met.C.PatCx.values cx) (reverse c.args.frames.now.items) (table_trees c.args.table.now) m next thin
    c.requires.1.1
