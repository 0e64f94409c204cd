use Rattle.std.proofs.Common.{◌<◌, ◌≤◌, ◌^◌, take}
use Rattle.std.specs.List.{All}
use Rattle.constructor_sets.proofs.variants.end_of.Given as goal

abbrev pub invariant-loop-k : goal.invariant-loop-k
invariant-loop-k l = (l.end ≤ 2 ^ 32) × All (λ k. k < l.end) (take l.k-index l.numbers)
