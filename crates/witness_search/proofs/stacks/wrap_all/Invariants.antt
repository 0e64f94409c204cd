use Rattle.std.proofs.Common.{◌≡◌, map}
use Rattle.match_model.specs.WitnessList.{wrapped}
use Rattle.pat_context.specs.Views.{plain_ctor}
use Rattle.witnesses.specs.Views.{plain_stack, plain_names}
use Rattle.witness_search.proofs.stacks.wrap_all.Given as goal

abbrev pub invariant-loop-stack : goal.invariant-loop-stack
invariant-loop-stack l =
    map plain_stack l.all.items ≡ map (wrapped (plain_ctor l.ctor) (plain_names l.named.items) l.arity) (map plain_stack l.yielded)
