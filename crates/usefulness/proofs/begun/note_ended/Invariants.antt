use Rattle.std.proofs.Common.{◌≡◌, ◌⊎◌, ◌++◌, List, ℕ}
use Rattle.std.specs.List.{Contains}
use Rattle.usefulness.specs.declared.begun.Begun.{Begun}
use Rattle.usefulness.specs.Keys.{told_keys}
use Rattle.usefulness.proofs.Nested.{Ended}
use Rattle.usefulness.proofs.begun.note_ended.Given as goal

abbrev pub invariant-loop-begun : goal.invariant-loop-begun
invariant-loop-begun l =
    ((w : List ℕ) → Contains (told_keys l.known) w → Contains (told_keys l.initial.known) w ⊎ Ended l.left l.initial.begun.items w)
    × ((gone : List Begun) × (l.initial.begun.items ≡ l.begun.items ++ gone))

abbrev pub decreases-loop-begun : goal.decreases-loop-begun
decreases-loop-begun l = goal.left-loop-begun l
