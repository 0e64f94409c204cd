use Rattle.std.proofs.Common.{sym, subst}
use Rattle.match_model.specs.Trees.{IsDefinedOn}
use Rattle.tree_eval.specs.Views.{plain_value}
use Rattle.tree_runs.specs.Runs.{AreAsked}
use Rattle.generic_calls.proofs.OneGuard.{guard_defined, guard_asks}
use Rattle.generic_calls.proofs.runs.asked_at_one_guard.Goals as goal

pub asked-requires-clause-defined : goal.asked-requires-clause-defined
asked-requires-clause-defined c =
    let v = plain_value c.args.value.now in
    subst (λ ns. IsDefinedOn ns v) (sym c.in_ok-tree.ensures) (guard_defined v)

pub returns : goal.returns
returns c =
    let v = plain_value c.args.value.now in
    let answers = c.args.answers.now in
    let items = c.in_ok-nodes.nodes.items in
    guard_asks v answers items (subst (λ ns. AreAsked ns v answers items) c.in_ok-tree.ensures c.in_ok-nodes.ensures)
