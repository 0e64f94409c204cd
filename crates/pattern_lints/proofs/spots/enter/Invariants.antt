use Rattle.std.proofs.Common.{◌≤◌}
use Rattle.pattern_arena.specs.Trees.{tree}
use Rattle.pattern_lints.specs.Finding.{Enters}
use Rattle.pattern_lints.specs.Meeting.{pattern_size}
use Rattle.pattern_lints.specs.Spots.{spots_in}
use Rattle.pattern_lints.proofs.spots.enter.Given as goal

abbrev pub invariant-loop-sub : goal.invariant-loop-sub
invariant-loop-sub g l = record {
  finds : Enters l.fn.finding l.finding l.fn.place (spots_in (tree l.fn.p)) l.at (spots_in (tree l.here));
  size : pattern_size (tree l.here) ≤ pattern_size (tree l.fn.p);
}

abbrev pub decreases-loop-sub : goal.decreases-loop-sub
decreases-loop-sub g l = pattern_size (tree l.here)
