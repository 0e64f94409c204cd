use Rattle.std.proofs.Common.{[], ◌∙◌, reverse, subst, sym, ap, map, length}
use Rattle.indexmap.proofs.ReorderLemmas.{map-reverse}
use Rattle.pat_context.specs.Places.{steps_of}
use Rattle.pat_context.specs.Views.{plain_place}
use Rattle.keyed_matrix.specs.Deciding.{table_decides}
use Rattle.tree_eval.specs.Nodes.{plain_branch}
use Rattle.tree_eval.specs.Tables.{AreBelow, FinishesSwitch}
use Rattle.tree_eval.specs.Trees.{table_trees}
use Rattle.decision_tree.proofs.Going.{switch-done}
use Rattle.decision_tree.proofs.Knowing.{switch-keeps}
use Rattle.decision_tree.proofs.Turning.{left-below}
use Rattle.decision_tree.proofs.lowering.finish_switch.Goals as goal

pub switch-requires : goal.switch-requires
switch-requires g c =
    let cx = c.args.cx.now in
    let IsType = g.C.PatCx.is_type cx in
    let context = g.C.PatCx.context cx in
    let V = g.C.PatCx.is_value cx in
    let decides = table_decides c.args.decisions.now in
    let frames = reverse c.args.frames.now.items in
    let now = table_trees c.args.table.now in
    let q = c.requires.1.1 in
    subst (AreBelow (length now))
    (sym (ap (map plain_branch) c.reverse.ensures.items ∙ map-reverse plain_branch c.args.cases.items))
    (left-below IsType context V decides g.root frames now q.0 q.1 [] (map plain_branch c.args.cases.items) q.3)

pub returns-clause-turn : goal.returns-clause-turn
returns-clause-turn g c =
    let cx = c.args.cx.now in
    let IsType = g.C.PatCx.is_type cx in
    let context = g.C.PatCx.context cx in
    let V = g.C.PatCx.is_value cx in
    let decides = table_decides c.args.decisions.now in
    let frames = reverse c.args.frames.now.items in
    let now = table_trees c.args.table.now in
    let q = c.requires.1.1 in
    let cases = map plain_branch c.args.cases.items in
    let place = plain_place (steps_of c.in_ok-steps.steps) in
    let index = c.in_ok-index.index in
    let new = table_trees c.switch.new.self in
    switch-done IsType context V decides g.root frames now new q.0 q.1 cases place index q.3
    (λ d there. ap plain_place c.in_ok-steps.ensures ∙ q.2 d there)
    (subst (λ bs. FinishesSwitch now place bs index new)
    (ap (map plain_branch) c.reverse.ensures.items ∙ map-reverse plain_branch c.args.cases.items) c.in_ok-index.ensures.finished)

pub returns-clause-keeps : goal.returns-clause-keeps
returns-clause-keeps g c =
    let cx = c.args.cx.now in
    let IsType = g.C.PatCx.is_type cx in
    let context = g.C.PatCx.context cx in
    let V = g.C.PatCx.is_value cx in
    let decides = table_decides c.args.decisions.now in
    let frames = reverse c.args.frames.now.items in
    let now = table_trees c.args.table.now in
    let q = c.requires.1.1 in
    let cases = map plain_branch c.args.cases.items in
    let place = plain_place (steps_of c.in_ok-steps.steps) in
    let index = c.in_ok-index.index in
    let new = table_trees c.switch.new.self in
    switch-keeps IsType context V decides g.root frames now new q.0 q.1 cases place index q.3
    (subst (λ bs. FinishesSwitch now place bs index new)
    (ap (map plain_branch) c.reverse.ensures.items ∙ map-reverse plain_branch c.args.cases.items) c.in_ok-index.ensures.finished)
