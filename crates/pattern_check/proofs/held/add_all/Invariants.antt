use Rattle.std.proofs.Common.{take}
use Rattle.pattern_check.specs.BoundSets.{bounds_view, AreHeld, Binds}
use Rattle.pattern_check.proofs.held.add_all.Given as goal

abbrev pub invariant-loop-bound : goal.invariant-loop-bound
invariant-loop-bound l = record {
  held : AreHeld l.table l.bounds.keys;
  binds : Binds (bounds_view l.table l.fn.bounds.keys) (bounds_view l.table l.bounds.keys) (bounds_view l.table (take l.bound-index l.more));
}
