use Rattle.std.proofs.Common.{◌≡◌, ◌++◌, suc, pos, map}
use Rattle.arm_maker.specs.Turns.{values}
use Rattle.arm_maker.proofs.keys.push_characters.Given as goal

abbrev pub invariant-loop-c : goal.invariant-loop-c
invariant-loop-c l = values l.key.items ≡ values l.initial.key.items ++ map (λ c. pos (suc c)) l.yielded
