use Rattle.std.proofs.Common.{ℕ, ◌<◌}
use Rattle.type_table.specs.Faults.{IsEndless}
use Rattle.type_table.specs.Possible.{program_in}
use Rattle.type_table.proofs.endless.first_endless.Given as goal

abbrev pub invariant-loop-i : goal.invariant-loop-i
invariant-loop-i l = (j : ℕ) → j < l.i → IsEndless (program_in l.fn._width l.nodes l.items) j → ⊥
