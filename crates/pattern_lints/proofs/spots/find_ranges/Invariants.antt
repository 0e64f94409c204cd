use Rattle.std.proofs.Common.{◌≡◌, [], map}
use Rattle.pattern_arena.specs.Trees.{plain_arm}
use Rattle.pattern_lints.specs.Finding.{AreFound, range_views}
use Rattle.pattern_lints.proofs.spots.find_ranges.Given as goal

abbrev pub invariant-loop-j : goal.invariant-loop-j
invariant-loop-j g l = (l.finding.path.items ≡ []) × AreFound (map plain_arm l.arms) l.j l.finding.places.keys (range_views l.finding)
