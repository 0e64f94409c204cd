use Rattle.std.proofs.Common.{map}
use Rattle.pattern_arena.specs.Trees.{plain_arm}
use Rattle.pattern_lints.proofs.HullLaws.{KnownTo}
use Rattle.pattern_lints.proofs.hulls.find_hulls.Given as goal

abbrev pub invariant-loop-arm : goal.invariant-loop-arm
invariant-loop-arm g l = KnownTo l.hulls (map plain_arm l.arms) l.arm-index
