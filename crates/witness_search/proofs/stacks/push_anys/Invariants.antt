use Rattle.std.proofs.Common.{◌≡◌, ◌++◌, replicate}
use Rattle.match_model.specs.Witness.{AnyOf}
use Rattle.witnesses.specs.Views.{plain_stack}
use Rattle.witness_search.proofs.stacks.push_anys.Given as goal

abbrev pub invariant-loop-place : goal.invariant-loop-place
invariant-loop-place l = plain_stack l.stack ≡ replicate l._place AnyOf ++ plain_stack l.initial.stack
