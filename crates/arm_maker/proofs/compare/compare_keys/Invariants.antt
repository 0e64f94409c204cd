use Rattle.std.proofs.Common.{◌≡◌, ◌≤◌, drop, length}
use Rattle.arm_maker.specs.Turns.{key_cmp}
use Rattle.arm_maker.proofs.compare.compare_keys.Given as goal

abbrev pub invariant-loop-i : goal.invariant-loop-i
invariant-loop-i l =
    (key_cmp (drop l.i l.first) (drop l.i l.second) ≡ key_cmp l.first l.second) × (l.i ≤ length l.second) ×
    (l.i ≤ length l.first)
