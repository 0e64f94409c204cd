use Rattle.std.proofs.Common.{[], reverse, subst, sym, ap, map}
use Rattle.pat_context.specs.Views.{plain_ctor}
use Rattle.keyed_matrix.specs.Deciding.{table_decides}
use Rattle.tree_eval.specs.Nodes.{plain_branch}
use Rattle.tree_eval.specs.Trees.{table_trees}
use Rattle.decision_tree.specs.declared.frames.Frame.TheVariants.{Last}
use Rattle.decision_tree.specs.Matrices.{matrix_columns, matrix_rows}
use Rattle.decision_tree.specs.Waiting.{Awaits}
use Rattle.decision_tree.proofs.Knowing.{entered-scope}
use Rattle.decision_tree.proofs.LastCases.{last-begun}
use Rattle.decision_tree.proofs.Looking.{read}
use Rattle.decision_tree.proofs.Turning.{last-first, piece-there}
use Rattle.decision_tree.proofs.lowering.last_case.Goals as goal

pub into_entered-requires-clause-piece : goal.into_entered-requires-clause-piece
into_entered-requires-clause-piece g c =
    let cx = c.args.cx.now in
    let IsType = g.C.PatCx.is_type cx in
    let context = g.C.PatCx.context cx in
    let V = g.C.PatCx.is_value cx in
    let decides = table_decides c.args.decisions.now in
    let frames = reverse c.args.frames.now.items in
    let now = table_trees c.args.table.now in
    piece-there IsType context V decides g.root frames now c.args.matrix c.args.i [] (plain_ctor c.args.piece.now)
    (map plain_branch c.args.cases.items) c.requires.1.1

pub lower_thin-requires : goal.lower_thin-requires
lower_thin-requires g c κs inside =
    let cx = c.args.cx.now in
    let IsType = g.C.PatCx.is_type cx in
    let context = g.C.PatCx.context cx in
    let V = g.C.PatCx.is_value cx in
    let decides = table_decides c.args.decisions.now in
    let frames = reverse c.args.frames.now.items in
    let now = table_trees c.args.table.now in
    let e = c.args.matrix in
    let i = c.args.i in
    let p = plain_ctor c.args.piece.now in
    let left = c.requires.1.1 in
    let next = c.in_ok-next.next in
    let place = c.index.result.now.place in
    let case = c.in_ok-case.case in (
      inside.0,
      (
        inside.1,
        (
          c.in_ok-next.ensures.good,
          subst (λ fs. Awaits IsType context V decides g.root fs now (matrix_columns next) (matrix_rows next))
              (sym (last-first c.args.frames.now.items c.push.new.self.items (Last place c.args.cases case) c.in_ok-push.ensures.items))
              (last-begun IsType context V decides g.root frames now e i p place c.args.cases case next left
              (λ d there. ap (λ q. q.place) (read e i d there c.index.result.now c.index.ensures)) c.in_ok-case.ensures
              c.in_ok-next.ensures.entered),
          entered-scope IsType context V decides g.root (g.met.C.PatCx.parts cx) (g.met.C.PatCx.values cx) i e next p
              left.5.scope left.5.ready
              (piece-there IsType context V decides g.root frames now e i [] p (map plain_branch c.args.cases.items) left)
              c.in_ok-next.ensures.entered,
        ),
      ),
    )
