use Rattle.std.proofs.Common.{◌∷◌, [], ◌++◌, subst}
use Rattle.tree_eval.specs.Nodes.{tree_nodes}
use Rattle.tree_eval.specs.Views.{plain_value}
use Rattle.tree_runs.specs.Turns.{IsTurnAt}
use Rattle.tree_runs.proofs.Stops.{at_first, on_case, on_refusal, case_falls, refusal_falls}
use Rattle.tree_runs.proofs.Ends.{run_granted, run_taken, run_missed, run_short}
use Rattle.tree_runs.proofs.run.follow.Goals as goal

pub walk-init : goal.walk-init
walk-init c = ([], at_first (tree_nodes c.args.tree.now) (plain_value c.args.value.now) c.args.answers.now)

pub walk-smaller-in-Case : goal.walk-smaller-in-Case
walk-smaller-in-Case c =
    let nodes = tree_nodes c.args.tree.now in
    let v = plain_value c.args.value.now in
    let t = subst (IsTurnAt nodes c.walk.node v c.answer_at.result) c.in-Case.is c.turn_at.ensures in
    case_falls nodes v c.walk.node c.in-Case.next t.node c.requires.forward t.there t.turn

pub walk-preserved-in-Case : goal.walk-preserved-in-Case
walk-preserved-in-Case c =
    let nodes = tree_nodes c.args.tree.now in
    let v = plain_value c.args.value.now in
    let refused = c.walk.invariant.0 in
    let t = subst (IsTurnAt nodes c.walk.node v c.answer_at.result) c.in-Case.is c.turn_at.ensures in (
      refused,
      on_case nodes v c.args.answers.now c.walk.node c.walk.used c.in-Case.next refused t.node t.there t.turn
          c.walk.invariant.1,
    )

pub walk-smaller : goal.walk-smaller
walk-smaller c =
    let nodes = tree_nodes c.args.tree.now in
    let v = plain_value c.args.value.now in
    let t = subst (IsTurnAt nodes c.walk.node v c.answer_at.result) c.in-Refused.is c.turn_at.ensures in
    refusal_falls nodes v c.walk.node c.in-Refused.next t.node c.answer_at.result c.requires.forward t.there t.turn

pub walk-preserved : goal.walk-preserved
walk-preserved c =
    let nodes = tree_nodes c.args.tree.now in
    let v = plain_value c.args.value.now in
    let refused = c.walk.invariant.0 in
    let t = subst (IsTurnAt nodes c.walk.node v c.answer_at.result) c.in-Refused.is c.turn_at.ensures in (
      refused ++ c.walk.node ∷ [],
      on_refusal nodes v c.args.answers.now c.walk.node c.walk.used c.in-Refused.next refused t.node
          c.answer_at.result t.there c.answer_at.ensures t.turn
          c.walk.invariant.1,
    )

pub returns-in-Granted : goal.returns-in-Granted
returns-in-Granted c =
    let nodes = tree_nodes c.args.tree.now in
    let v = plain_value c.args.value.now in
    let t = subst (IsTurnAt nodes c.walk.node v c.answer_at.result) c.in-Granted.is c.turn_at.ensures in
    run_granted nodes v c.args.answers.now c.walk.node c.walk.used c.walk.invariant.0 c.walk.invariant.1 t.node
    t.there c.answer_at.result
    c.answer_at.ensures t.turn

pub returns-in-Taken : goal.returns-in-Taken
returns-in-Taken c =
    let nodes = tree_nodes c.args.tree.now in
    let v = plain_value c.args.value.now in
    let t = subst (IsTurnAt nodes c.walk.node v c.answer_at.result) c.in-Taken.is c.turn_at.ensures in
    run_taken nodes v c.args.answers.now c.walk.node c.walk.used c.walk.invariant.0 c.walk.invariant.1 t.node t.there
    t.turn

pub returns-in-Missed : goal.returns-in-Missed
returns-in-Missed c =
    let nodes = tree_nodes c.args.tree.now in
    let v = plain_value c.args.value.now in
    let t = subst (IsTurnAt nodes c.walk.node v c.answer_at.result) c.in-Missed.is c.turn_at.ensures in
    run_missed nodes v c.args.answers.now c.walk.node c.walk.used c.walk.invariant.0 c.walk.invariant.1 t.node t.there
    t.turn

pub returns-in-Short : goal.returns-in-Short
returns-in-Short c =
    let nodes = tree_nodes c.args.tree.now in
    let v = plain_value c.args.value.now in
    let t = subst (IsTurnAt nodes c.walk.node v c.answer_at.result) c.in-Short.is c.turn_at.ensures in
    run_short nodes v c.args.answers.now c.walk.node c.walk.used c.walk.invariant.0 c.walk.invariant.1 t.node t.there
    c.answer_at.result
    c.answer_at.ensures t.turn
