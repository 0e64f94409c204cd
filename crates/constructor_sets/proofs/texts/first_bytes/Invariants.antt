use Rattle.std.proofs.Common.{◌≡◌, ◌<◌}
use Rattle.constructor_sets.specs.Texts.{weight, first_number}
use Rattle.constructor_sets.proofs.texts.first_bytes.Given as goal

abbrev pub invariant-loop-place : goal.invariant-loop-place
invariant-loop-place l = (l.begin ≡ first_number l.place l.bytes) × (l.begin < weight l.place)
