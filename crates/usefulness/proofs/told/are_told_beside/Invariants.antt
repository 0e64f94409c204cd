use Rattle.std.proofs.Common.{take}
use Rattle.std.specs.List.{All, Contains}
use Rattle.usefulness.specs.Memo.{told_beside}
use Rattle.usefulness.proofs.told.are_told_beside.Given as goal

abbrev pub invariant-loop-one : goal.invariant-loop-one
invariant-loop-one l = All (λ c. Contains l.told.chosen.keys (told_beside l.list c)) (take l.one-index l.chosen)
