use Rattle.std.proofs.Common.{map}
use Rattle.pattern_arena.specs.Trees.{plain_arm}
use Rattle.pattern_lints.specs.Finding.{range_view}
use Rattle.pattern_lints.specs.Ends.{AreEndsTo, AreBounded}
use Rattle.pattern_lints.proofs.ends.ends_found.Given as goal

abbrev pub invariant-loop-index : goal.invariant-loop-index
invariant-loop-index g l =
    AreEndsTo l.side (map range_view l.found) l.index l.ends.items × AreBounded (map plain_arm l.arms) l.columns (map range_view l.found) l.ends.items
