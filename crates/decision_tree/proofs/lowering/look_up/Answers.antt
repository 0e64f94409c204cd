use Rattle.std.proofs.Common.{◌∙◌, reverse, subst, refl, sym}
use Rattle.keyed_matrix.specs.Deciding.{table_decides}
use Rattle.keyed_matrix.specs.Views.{plain_columns, plain_rows}
use Rattle.tree_eval.specs.Trees.{table_trees}
use Rattle.decision_tree.specs.declared.frames.Frame.TheVariants.{Note}
use Rattle.decision_tree.specs.declared.frames.Matrix.{Matrix}
use Rattle.decision_tree.specs.Known.{known_matrix}
use Rattle.decision_tree.specs.KnownViews.{plain_known_matrix, known_entries}
use Rattle.decision_tree.specs.Matrices.{matrix_columns, matrix_rows}
use Rattle.decision_tree.specs.Waiting.{Awaits}
use Rattle.decision_tree.proofs.Knowing.{by-arm, lone-open, lone-some, known-turn, note-begun}
use Rattle.decision_tree.proofs.LeftOut.{out-some-rows, out-open-rows, long-matrix, out-matrix, out-scope, out-waits}
use Rattle.decision_tree.proofs.RepeatedRows.{left-matrix, laid-matrix, laid-scope, laid-waits, left-some-rows, left-open-rows}
use Rattle.decision_tree.proofs.Turning.{last-first}
use Rattle.decision_tree.proofs.lowering.look_up.Goals as goal

pub lone-rows-requires : goal.lone-rows-requires
lone-rows-requires g c =
    let decides = table_decides c.args.decisions.now in
    let m = c.args.m in
    let left : Matrix g.row.C-Ty.Denot = record { columns = m.columns; rows = c.in_ok-rows.rows } in
    by-arm decides (matrix_rows left)
    (left-matrix (g.C.PatCx.is_type c.args.cx.now) (g.C.PatCx.context c.args.cx.now) decides
    (g.C.PatCx.is_value c.args.cx.now) g.root c.requires.1.1.1.1.1.1.1.1 m left refl c.in_ok-rows.ensures
    c.requires.1.1.1.1.0).parted

pub without_wild-requires : goal.without_wild-requires
without_wild-requires g c =
    let cx = c.args.cx.now in
    let IsType = g.C.PatCx.is_type cx in
    let context = g.C.PatCx.context cx in
    let V = g.C.PatCx.is_value cx in
    let decides = table_decides c.args.decisions.now in
    let m = c.args.m in
    let sound = c.requires.1.1.1.1.0 in
    let uids = c.requires.1.1.1.1.1.1.1.1 in
    let laid = c.in_ok-rows.ensures in
    let left : Matrix g.row.C-Ty.Denot = record { columns = m.columns; rows = c.in_ok-rows.rows } in
    let next : Matrix g.row.C-Ty.Denot = record { columns = m.columns; rows = c.lone-rows.result } in
    long-matrix IsType context V decides g.root next
    (laid-matrix IsType context decides V g.root uids m left next refl refl laid c.lone-rows.ensures sound)

pub returns-in-Some-clause-turn : goal.returns-in-Some-clause-turn
returns-in-Some-clause-turn g c =
    let cx = c.args.cx.now in
    let IsType = g.C.PatCx.is_type cx in
    let context = g.C.PatCx.context cx in
    let V = g.C.PatCx.is_value cx in
    let decides = table_decides c.args.decisions.now in
    let frames = reverse c.args.frames.now.items in
    let now = table_trees c.args.table.now in
    let m = c.args.m in
    let sound = c.requires.1.1.1.1.0 in
    let uids = c.requires.1.1.1.1.1.1.1.1 in
    let laid = c.in_ok-rows.ensures in
    let left : Matrix g.row.C-Ty.Denot = record { columns = m.columns; rows = c.in_ok-rows.rows } in
    let next : Matrix g.row.C-Ty.Denot = record { columns = m.columns; rows = c.lone-rows.result } in
    let less = c.in_ok-m.m in
    let good = laid-matrix IsType context decides V g.root uids m left next refl refl laid c.lone-rows.ensures sound in
    known-turn IsType context V decides g.root frames now less (known_entries c.args.known.now)
    (plain_known_matrix c.in_ok-matrix.matrix) c.in-Some.index c.tables_are_built.ensures c.requires.1.1.1.1.1.1.1.1
    (out-scope IsType context V decides g.root next less c.in_ok-m.ensures.leaves
    (laid-scope IsType context decides V g.root uids m left next refl refl laid c.lone-rows.ensures c.requires.1.1.1.1.1.1.0))
    c.requires.1.1.1.1.1.1.1.0
    (c.in_ok-matrix.ensures ∙ (λ k. known_matrix (plain_columns (c.deref.ensures.value k)) (plain_rows (c.deref-2.ensures.value k))))
    c.in-Some.ensures
    (out-waits IsType context V decides g.root (g.met.C.PatCx.parts cx) (g.met.C.PatCx.values cx) frames now next less
    c.in_ok-m.ensures.leaves good
    (laid-waits IsType context decides V g.root uids (g.met.C.PatCx.parts cx) (g.met.C.PatCx.values cx) frames now m left
    next refl refl laid c.lone-rows.ensures sound c.requires.1.1.1.1.1.1.0 c.requires.1.1.1.1.1.0))

pub look_next-requires : goal.look_next-requires
look_next-requires g c κs inside =
    let cx = c.args.cx.now in
    let IsType = g.C.PatCx.is_type cx in
    let context = g.C.PatCx.context cx in
    let V = g.C.PatCx.is_value cx in
    let decides = table_decides c.args.decisions.now in
    let frames = reverse c.args.frames.now.items in
    let now = table_trees c.args.table.now in
    let m = c.args.m in
    let sound = c.requires.1.1.1.1.0 in
    let uids = c.requires.1.1.1.1.1.1.1.1 in
    let laid = c.in_ok-rows.ensures in
    let left : Matrix g.row.C-Ty.Denot = record { columns = m.columns; rows = c.in_ok-rows.rows } in
    let next : Matrix g.row.C-Ty.Denot = record { columns = m.columns; rows = c.lone-rows.result } in
    let less = c.in_ok-m.m in
    let leaves = c.in_ok-m.ensures.leaves in
    let matrix = c.in_ok-matrix.matrix in
    let good = laid-matrix IsType context decides V g.root uids m left next refl refl laid c.lone-rows.ensures sound in
    let some = lone-some left.rows.items next.rows.items c.lone-rows.ensures
    (left-some-rows m.rows.items left.rows.items laid c.requires.1.1.0) in
    let scope = out-scope IsType context V decides g.root next less leaves
    (laid-scope IsType context decides V g.root uids m left next refl refl laid c.lone-rows.ensures c.requires.1.1.1.1.1.1.0) in (
      inside.0,
      (
        inside.1,
        (
          out-some-rows (matrix_columns next) (matrix_columns less) next.rows.items less.rows.items leaves some,
          (
            out-open-rows (matrix_columns next) (matrix_columns less) next.rows.items less.rows.items leaves some
                (lone-open left.rows.items next.rows.items c.lone-rows.ensures
                (left-open-rows m.rows.items left.rows.items laid c.requires.1.1.1.0 c.requires.1.1.0)
                (left-some-rows m.rows.items left.rows.items laid c.requires.1.1.0)),
            (
              out-matrix IsType context V decides g.root next less leaves good,
              (
                subst (λ fs. Awaits IsType context V decides g.root fs now (matrix_columns less) (matrix_rows less))
                    (sym (last-first c.args.frames.now.items c.push.new.self.items (Note matrix) c.in_ok-push.ensures.items))
                    (note-begun IsType context V decides g.root frames now less matrix scope
                    (c.in_ok-matrix.ensures ∙ (λ k. known_matrix (plain_columns (c.deref.ensures.value k))
                    (plain_rows (c.deref-2.ensures.value k))))
                    (out-waits IsType context V decides g.root (g.met.C.PatCx.parts cx) (g.met.C.PatCx.values cx) frames now next
                    less leaves good
                    (laid-waits IsType context decides V g.root uids (g.met.C.PatCx.parts cx) (g.met.C.PatCx.values cx) frames now
                    m left next refl refl laid c.lone-rows.ensures sound c.requires.1.1.1.1.1.1.0 c.requires.1.1.1.1.1.0))),
                scope,
              ),
            ),
          ),
        ),
      ),
    )
