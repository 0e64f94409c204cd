use Rattle.std.proofs.Common.{sym, subst}
use Rattle.match_model.specs.Trees.{IsDefinedOn}
use Rattle.tree_eval.specs.Views.{plain_value}
use Rattle.tree_runs.specs.Runs.{IsRun}
use Rattle.generic_calls.proofs.OneGuard.{guard_defined, guard_ends}
use Rattle.generic_calls.proofs.runs.end_at_one_guard.Goals as goal

pub follow-requires-clause-defined : goal.follow-requires-clause-defined
follow-requires-clause-defined c =
    let v = plain_value c.args.value.now in
    subst (λ ns. IsDefinedOn ns v) (sym c.in_ok-tree.ensures) (guard_defined v)

pub returns : goal.returns
returns c =
    let v = plain_value c.args.value.now in
    let answers = c.args.answers.now in
    let o = c.follow.result in
    guard_ends v answers o (subst (λ ns. IsRun ns v answers o) c.in_ok-tree.ensures c.follow.ensures)
