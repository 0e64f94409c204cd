use Rattle.std.proofs.Common.{◌≡◌, ◌++◌, take}
use Rattle.keyed_matrix.proofs.choices.both_binds.Given as goal

abbrev pub invariant-loop-bound : goal.invariant-loop-bound
invariant-loop-bound l = l.all.items ≡ l.binds ++ take l.bound-index l.more
