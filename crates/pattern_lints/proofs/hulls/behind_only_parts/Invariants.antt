use Rattle.std.proofs.Common.{◌≤◌}
use Rattle.pattern_arena.specs.Trees.{tree}
use Rattle.pattern_lints.specs.declared.hulls.Hulls.{Hulls}
use Rattle.pattern_lints.specs.Hulls.{AreKnown}
use Rattle.pattern_lints.specs.Meeting.{pattern_size}
use Rattle.pattern_lints.proofs.hulls.behind_only_parts.Given as goal

abbrev pub invariant-loop-sub : goal.invariant-loop-sub
invariant-loop-sub g l = record {
  known : (h : Hulls) → AreKnown h (tree l.here) → AreKnown h (tree l.fn.p);
  size : pattern_size (tree l.here) ≤ pattern_size (tree l.fn.p);
}

abbrev pub decreases-loop-sub : goal.decreases-loop-sub
decreases-loop-sub g l = pattern_size (tree l.here)
