use Rattle.std.proofs.Common.{◌≡◌, ◌∙◌, true, reverse, remove, subst, sym, ap, map, length}
use Rattle.match_model.specs.DecisionTrees.{TakeTree, all_wild, row_binds}
use Rattle.keyed_matrix.specs.Deciding.{table_decides}
use Rattle.keyed_matrix.specs.Views.{plain_columns, plain_row, plain_rows}
use Rattle.tree_eval.specs.Nodes.{plain_bind}
use Rattle.tree_eval.specs.Trees.{table_trees}
use Rattle.decision_tree.specs.Matrices.{matrix_columns}
use Rattle.decision_tree.specs.Waiting.{Awaits}
use Rattle.decision_tree.proofs.KnownTrees.{keeps-walk}
use Rattle.decision_tree.proofs.Going.{taken}
use Rattle.decision_tree.proofs.Turning.{taken-off, first-as-many}
use Rattle.decision_tree.proofs.lowering.finish_row.Goals as goal

pub row_binds-requires : goal.row_binds-requires
row_binds-requires g c =
    let m = c.args.m in
    let row = c.index-row.result.now in
    let cx = c.args.cx.now in
    let front = taken-off m.rows.items row c.requires.1.1.0 c.index-row.ensures in
    ap length c.deref.ensures.value
    ∙ first-as-many (g.C.PatCx.is_type cx) (g.C.PatCx.context cx) (g.C.PatCx.is_value cx) (table_decides c.args.decisions.now)
    g.root m row (remove m.rows.items 0) front c.requires.1.1.1.1.0

pub returns-clause-turn : goal.returns-clause-turn
returns-clause-turn g c =
    let cx = c.args.cx.now in
    let IsType = g.C.PatCx.is_type cx in
    let context = g.C.PatCx.context cx in
    let V = g.C.PatCx.is_value cx in
    let decides = table_decides c.args.decisions.now in
    let frames = reverse c.args.frames.now.items in
    let now = table_trees c.args.table.now in
    let m = c.args.m in
    let row = c.index-row.result.now in
    let binds = c.in_ok-binds.binds in
    let columns = matrix_columns m in
    let rest = remove m.rows.items 0 in
    let front = ap plain_rows (taken-off m.rows.items row c.requires.1.1.0 c.index-row.ensures) in
    taken IsType context V decides g.root frames now (table_trees c.take.new.self) columns (plain_row row) (plain_rows rest)
    (map plain_bind binds.items) c.in_ok-index.index
    (subst (λ r. all_wild (plain_row r) ≡ true) (sym c.index-row.ensures) (c.requires.1.1.1.0 row)) c.if-row.false
    (subst (λ cs. map plain_bind binds.items ≡ row_binds (plain_columns cs) (plain_row row)) c.deref.ensures.value
    c.in_ok-binds.ensures) c.tables_are_built.ensures
    (subst (Awaits IsType context V decides g.root frames now columns) front c.requires.1.1.1.1.1.0)
    c.in_ok-index.ensures.finished

pub returns-clause-keeps : goal.returns-clause-keeps
returns-clause-keeps g c =
    keeps-walk (table_trees c.args.table.now) (table_trees c.take.new.self)
    (TakeTree c.index-row.result.now.arm (map plain_bind c.in_ok-binds.binds.items)) c.in_ok-index.ensures.finished.walk
