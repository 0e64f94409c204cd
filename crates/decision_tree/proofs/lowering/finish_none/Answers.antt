use Rattle.std.proofs.Common.{subst, reverse}
use Rattle.match_model.specs.DecisionTrees.{VoidTree, MissTree}
use Rattle.keyed_matrix.specs.Deciding.{table_decides}
use Rattle.keyed_matrix.specs.Views.{plain_rows}
use Rattle.tree_eval.specs.Trees.{table_trees}
use Rattle.decision_tree.specs.Matrices.{matrix_columns}
use Rattle.decision_tree.specs.Waiting.{Awaits}
use Rattle.decision_tree.proofs.KnownTrees.{keeps-walk}
use Rattle.decision_tree.proofs.Going.{left-void, left-miss}
use Rattle.decision_tree.proofs.lowering.finish_none.Goals as goal

pub returns-then-bare-clause-turn : goal.returns-then-bare-clause-turn
returns-then-bare-clause-turn g c =
    let cx = c.args.cx.now in
    let IsType = g.C.PatCx.is_type cx in
    let context = g.C.PatCx.context cx in
    let V = g.C.PatCx.is_value cx in
    let decides = table_decides c.args.decisions.now in
    let frames = reverse c.args.frames.now.items in
    let now = table_trees c.args.table.now in
    let columns = matrix_columns c.args.m in
    left-void IsType context V decides g.root frames now (table_trees c.void.new.self) columns
    c.in_ok-index.index (c.requires.1.1.0.0 c.if-bare.true) c.tables_are_built.ensures
    (subst (λ rs. Awaits IsType context V decides g.root frames now columns (plain_rows rs)) c.requires.1.1.1.0
    c.requires.1.1.1.1) c.in_ok-index.ensures.finished

pub returns-clause-turn : goal.returns-clause-turn
returns-clause-turn g c =
    let cx = c.args.cx.now in
    let IsType = g.C.PatCx.is_type cx in
    let context = g.C.PatCx.context cx in
    let V = g.C.PatCx.is_value cx in
    let decides = table_decides c.args.decisions.now in
    let frames = reverse c.args.frames.now.items in
    let now = table_trees c.args.table.now in
    let columns = matrix_columns c.args.m in
    left-miss IsType context V decides g.root frames now (table_trees c.miss.new.self) columns
    c.in_ok-index-2.index (c.requires.1.1.0.1 c.if-bare.false) c.tables_are_built.ensures
    (subst (λ rs. Awaits IsType context V decides g.root frames now columns (plain_rows rs)) c.requires.1.1.1.0
    c.requires.1.1.1.1) c.in_ok-index-2.ensures.finished

pub returns-then-bare-clause-keeps : goal.returns-then-bare-clause-keeps
returns-then-bare-clause-keeps g c =
    keeps-walk (table_trees c.args.table.now) (table_trees c.void.new.self) VoidTree c.in_ok-index.ensures.finished.walk

pub returns-clause-keeps : goal.returns-clause-keeps
returns-clause-keeps g c =
    keeps-walk (table_trees c.args.table.now) (table_trees c.miss.new.self) MissTree c.in_ok-index-2.ensures.finished.walk
