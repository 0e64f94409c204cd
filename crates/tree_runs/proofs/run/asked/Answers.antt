use Rattle.std.proofs.Common.{◌≡◌, ◌+◌, ◌∙◌, ap, sym, subst, slice_get, length, vec_len, ◌∷◌, [], ◌++◌, arith}
use Rattle.std.proofs.lemmas.List.{length-append}
use Rattle.tree_eval.specs.Nodes.{tree_nodes}
use Rattle.tree_eval.specs.Views.{plain_value}
use Rattle.tree_runs.specs.Turns.{IsTurnAt}
use Rattle.tree_runs.proofs.Stops.{IsAt, at_first, on_case, on_refusal, case_falls, refusal_falls}
use Rattle.tree_runs.proofs.Ends.{asked_granted, asked_taken, asked_missed, asked_short}
use Rattle.tree_runs.proofs.run.asked.Goals as goal

pub walk-init : goal.walk-init
walk-init c = rw c.new-nodes.ensures.items
    (at_first (tree_nodes c.args.tree.now) (plain_value c.args.value.now) c.args.answers.now)

pub walk-smaller-in-Case : goal.walk-smaller-in-Case
walk-smaller-in-Case c =
    let nodes = tree_nodes c.args.tree.now in
    let v = plain_value c.args.value.now in
    let t = subst (IsTurnAt nodes c.walk.node v c.answer_at.result) c.in-Case.is c.turn_at.ensures in
    case_falls nodes v c.walk.node c.in-Case.next t.node c.requires.forward t.there t.turn

pub walk-preserved-in-Case : goal.walk-preserved-in-Case
walk-preserved-in-Case c =
    let nodes = tree_nodes c.args.tree.now in
    let v = plain_value c.args.value.now in
    let t = subst (IsTurnAt nodes c.walk.node v c.answer_at.result) c.in-Case.is c.turn_at.ensures in
    on_case nodes v c.args.answers.now c.walk.node (length c.walk.nodes.items) c.in-Case.next c.walk.nodes.items
    t.node t.there t.turn c.walk.invariant

pub walk-smaller : goal.walk-smaller
walk-smaller c =
    let nodes = tree_nodes c.args.tree.now in
    let v = plain_value c.args.value.now in
    let t = subst (IsTurnAt nodes c.walk.node v c.answer_at.result) c.in-Refused.is c.turn_at.ensures in
    refusal_falls nodes v c.walk.node c.in-Refused.next t.node c.answer_at.result c.requires.forward t.there t.turn

pub walk-preserved : goal.walk-preserved
walk-preserved c =
    let nodes = tree_nodes c.args.tree.now in
    let v = plain_value c.args.value.now in
    let answers = c.args.answers.now in
    let before = c.walk.nodes.items in
    let t = subst (IsTurnAt nodes c.walk.node v c.answer_at.result) c.in-Refused.is c.turn_at.ensures in
    let count : vec_len c.walk.nodes ≡ length before = omega (arith, c.walk.nodes.ok.0) in
    let is : c.answer_at.result ≡ slice_get answers (length before) = c.answer_at.ensures
    ∙ ap (slice_get answers) (c.len.ensures ∙ count) in
    let more : length before + 1 ≡ length (before ++ c.walk.node ∷ []) =
    sym (length-append before (c.walk.node ∷ [])) in
    rw c.in_ok-push-in-Refused.ensures.items
    (subst (λ m. IsAt nodes v answers c.in-Refused.next m (before ++ c.walk.node ∷ [])) more
    (on_refusal nodes v answers c.walk.node (length before) c.in-Refused.next before t.node c.answer_at.result t.there
    is t.turn c.walk.invariant))

pub returns-in-Granted : goal.returns-in-Granted
returns-in-Granted c =
    let nodes = tree_nodes c.args.tree.now in
    let v = plain_value c.args.value.now in
    let answers = c.args.answers.now in
    let before = c.walk.nodes.items in
    let t = subst (IsTurnAt nodes c.walk.node v c.answer_at.result) c.in-Granted.is c.turn_at.ensures in
    let count : vec_len c.walk.nodes ≡ length before = omega (arith, c.walk.nodes.ok.0) in
    let is : c.answer_at.result ≡ slice_get answers (length before) = c.answer_at.ensures
    ∙ ap (slice_get answers) (c.len.ensures ∙ count) in
    rw c.in_ok-push-in-Granted.ensures.items
    (asked_granted nodes v answers c.walk.node (length before) before c.walk.invariant t.node t.there
    c.answer_at.result is t.turn)

pub returns-in-Taken : goal.returns-in-Taken
returns-in-Taken c =
    let nodes = tree_nodes c.args.tree.now in
    let v = plain_value c.args.value.now in
    let before = c.walk.nodes.items in
    let t = subst (IsTurnAt nodes c.walk.node v c.answer_at.result) c.in-Taken.is c.turn_at.ensures in
    asked_taken nodes v c.args.answers.now c.walk.node (length before) before c.walk.invariant t.node t.there t.turn

pub returns-in-Missed : goal.returns-in-Missed
returns-in-Missed c =
    let nodes = tree_nodes c.args.tree.now in
    let v = plain_value c.args.value.now in
    let before = c.walk.nodes.items in
    let t = subst (IsTurnAt nodes c.walk.node v c.answer_at.result) c.in-Missed.is c.turn_at.ensures in
    asked_missed nodes v c.args.answers.now c.walk.node (length before) before c.walk.invariant t.node t.there t.turn

pub returns-in-Short : goal.returns-in-Short
returns-in-Short c =
    let nodes = tree_nodes c.args.tree.now in
    let v = plain_value c.args.value.now in
    let answers = c.args.answers.now in
    let before = c.walk.nodes.items in
    let t = subst (IsTurnAt nodes c.walk.node v c.answer_at.result) c.in-Short.is c.turn_at.ensures in
    let count : vec_len c.walk.nodes ≡ length before = omega (arith, c.walk.nodes.ok.0) in
    let is : c.answer_at.result ≡ slice_get answers (length before) = c.answer_at.ensures
    ∙ ap (slice_get answers) (c.len.ensures ∙ count) in
    asked_short nodes v answers c.walk.node (length before) before c.walk.invariant t.node t.there c.answer_at.result
    is t.turn
