use Rattle.std.proofs.Common.{◌≡◌, ◌++◌, map, replicate}
use Rattle.match_model.specs.Witness.{AnyOf}
use Rattle.witnesses.specs.Views.{plain_stack}
use Rattle.witness_search.proofs.stacks.with_anys.Given as goal

abbrev pub invariant-loop-stack : goal.invariant-loop-stack
invariant-loop-stack l = map plain_stack l.all.items ≡ map (λ w. replicate l.count AnyOf ++ w) (map plain_stack l.yielded)
