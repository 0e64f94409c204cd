use Rattle.std.proofs.Common.{◌≡◌, ◌++◌, map, take, replicate}
use Rattle.match_model.specs.Witness.{AnyOf}
use Rattle.match_model.specs.WitnessList.{wrapped}
use Rattle.pat_context.specs.Views.{plain_ctor}
use Rattle.witnesses.specs.Views.{plain_stack, plain_names}
use Rattle.witness_search.proofs.stacks.wrapped_copies.Given as goal

abbrev pub invariant-loop-stack : goal.invariant-loop-stack
invariant-loop-stack l =
    map plain_stack l.all.items ≡ map (wrapped (plain_ctor l.ctor) (plain_names l.named.items) l.arity)
    (map (λ w. replicate l.arity AnyOf ++ w) (map plain_stack (take l.stack-index l.stacks.items)))
