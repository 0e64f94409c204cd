use Rattle.std.proofs.Common.{◌≡◌, ◌<◌, ◌∙◌, ◌++◌, ◌∷◌, [], map, length, reverse, subst, sym, ap, refl, arith}
use Rattle.match_model.specs.DecisionTrees.{TakeTree, by_name}
use Rattle.match_model.specs.Matrices.{head_binds}
use Rattle.pat_context.specs.Views.{plain_ctor, plain_place}
use Rattle.constructor_sets.specs.Columns.{plain_ctors}
use Rattle.keyed_matrix.specs.Deciding.{table_decides}
use Rattle.keyed_matrix.specs.Views.{plain_head, plain_row, plain_rows}
use Rattle.keyed_matrix.proofs.RowSteps.{longer-row}
use Rattle.tree_eval.specs.Nodes.{plain_bind, plain_branch}
use Rattle.tree_eval.specs.Trees.{table_trees}
use Rattle.decision_tree.specs.declared.frames.Frame.TheVariants.{Switch}
use Rattle.decision_tree.specs.declared.frames.Turn.TheVariants.{Finished}
use Rattle.decision_tree.specs.Waiting.{IsTurn}
use Rattle.decision_tree.proofs.Cuts.{there-got}
use Rattle.decision_tree.proofs.IdleCases.{idle-turn, idle-within}
use Rattle.decision_tree.proofs.KnownTrees.{keeps-walk}
use Rattle.decision_tree.proofs.Looking.{longer, read}
use Rattle.decision_tree.proofs.Reading.{read-map}
use Rattle.decision_tree.proofs.Turning.{last-first, left-within}
use Rattle.decision_tree.proofs.lowering.take_case.Goals as goal

pub index-row-requires : goal.index-row-requires
index-row-requires g c =
    let l = c.args.looked in
    omega (arith, l.matrix.rows.ok.0, idle-within l.column l.matrix (plain_ctor c.args.piece.now) c.args.k c.requires.1.1.1.1)

pub index-requires : goal.index-requires
index-requires g c =
    let cx = c.args.cx.now in
    let l = c.args.looked in
    omega (
      arith,
      l.matrix.columns.ok.0,
      left-within (g.C.PatCx.is_type cx) (g.C.PatCx.context cx) (g.C.PatCx.is_value cx) (table_decides c.args.decisions.now)
          g.root (reverse c.args.frames.now.items) (table_trees c.args.table.now) l.matrix l.column
          (plain_ctors l.pieces.items ++ plain_ctor c.args.piece.now ∷ []) (map plain_branch l.cases.items) c.requires.1.1.0,
    )

pub head_at-requires : goal.head_at-requires
head_at-requires g c =
    let cx = c.args.cx.now in
    let l = c.args.looked in
    let x = c.requires.1.1.0.5 in
    longer-row l.column l.matrix.rows.items c.args.k c.index-row.result.now
    (longer (g.C.PatCx.is_type cx) (g.C.PatCx.context cx) (g.C.PatCx.is_value cx) (g.met.C.PatCx.values cx)
    (table_decides c.args.decisions.now) l.column l.matrix x.column x.ready x.there)
    (idle-within l.column l.matrix (plain_ctor c.args.piece.now) c.args.k c.requires.1.1.1.1) c.index-row.ensures

pub returns-clause-turn : goal.returns-clause-turn
returns-clause-turn g c =
    let cx = c.args.cx.now in
    let IsType = g.C.PatCx.is_type cx in
    let context = g.C.PatCx.context cx in
    let V = g.C.PatCx.is_value cx in
    let decides = table_decides c.args.decisions.now in
    let frames = reverse c.args.frames.now.items in
    let now = table_trees c.args.table.now in
    let new = table_trees c.take.new.self in
    let l = c.args.looked in
    let p = plain_ctor c.args.piece.now in
    let row = plain_row c.index-row.result.now in
    let place = plain_place c.index.result.now.place.now in
    let head = plain_head c.head_at.result in
    let case = c.in_ok-case.case in
    let binds = map plain_bind c.in_ok-binds.binds.items in
    let index = c.in_ok-index.index in
    let got = read-map plain_row l.matrix.rows.items c.args.k c.index-row.result.now
    (idle-within l.column l.matrix p c.args.k c.requires.1.1.1.1) c.index-row.ensures in
    subst (λ fs. IsTurn IsType context V decides g.root fs new (Finished index))
    (sym (last-first c.args.frames.now.items c.push.new.self.items (Switch l case) c.in_ok-push.ensures.items))
    (idle-turn IsType context V (g.met.C.PatCx.values cx) decides g.root frames now new l case p c.args.k row place binds index
    c.requires.1.1.0 c.requires.1.1.1.0 c.requires.1.1.1.1 c.in_ok-case.ensures got
    (λ d there. ap (λ q. q.place) (read l.matrix l.column d there c.index.result.now c.index.ensures))
    (c.in_ok-binds.ensures ∙ ap (λ h. by_name (row.caught ++ head_binds place h)) (sym (there-got l.column row.heads head c.head_at.ensures)))
    c.tables_are_built.ensures c.in_ok-index.ensures.finished)

pub returns-clause-keeps : goal.returns-clause-keeps
returns-clause-keeps g c =
    keeps-walk (table_trees c.args.table.now) (table_trees c.take.new.self)
    (TakeTree c.index-row.result.now.arm (map plain_bind c.in_ok-binds.binds.items)) c.in_ok-index.ensures.finished.walk
