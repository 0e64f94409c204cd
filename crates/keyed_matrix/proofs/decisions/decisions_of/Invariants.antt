use Rattle.std.proofs.Common.{◌≡◌, ℕ, take}
use Rattle.keyed_matrix.specs.Deciding.{in_table, listed_of}
use Rattle.keyed_matrix.proofs.Numbered.{arms_decide}
use Rattle.keyed_matrix.proofs.decisions.decisions_of.Given as goal

abbrev pub invariant-loop-arm : goal.invariant-loop-arm
invariant-loop-arm g l = (u : ℕ) → in_table l.all u ≡ listed_of (arms_decide (take l.arm-index l.m.arms.now)) u
