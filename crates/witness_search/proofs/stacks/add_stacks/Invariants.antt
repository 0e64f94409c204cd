use Rattle.std.proofs.Common.{◌≡◌, ◌++◌, map}
use Rattle.witnesses.specs.Views.{plain_stack}
use Rattle.witness_search.proofs.stacks.add_stacks.Given as goal

abbrev pub invariant-loop-stack : goal.invariant-loop-stack
invariant-loop-stack l = map plain_stack l.all.items ≡ map plain_stack l.initial.all.items ++ map plain_stack l.yielded
