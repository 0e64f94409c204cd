use Rattle.std.proofs.Common.{◌≡◌, ◌∷◌, [], map}
use Rattle.witnesses.specs.Views.{plain_stack, plain_witness}
use Rattle.witness_search.proofs.top.only_each.Given as goal

abbrev pub invariant-loop-stack : goal.invariant-loop-stack
invariant-loop-stack l = map (λ w. w ∷ []) (map plain_witness l.all.items) ≡ map plain_stack l.yielded
