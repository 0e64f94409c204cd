use Rattle.std.proofs.Common.{◌+◌, ◌*◌}
use Rattle.pattern_arena.specs.Trees.{tree}
use Rattle.pattern_lints.specs.Finding.{Notes}
use Rattle.pattern_lints.specs.Meeting.{pattern_size}
use Rattle.pattern_lints.proofs.Walking.{spots_to}
use Rattle.pattern_lints.proofs.spots.+walking.Given as goal

abbrev pub decreases-find_in : goal.decreases-find_in
decreases-find_in g l = 3 * pattern_size (tree l.p.now) + 1

abbrev pub decreases-find_parts : goal.decreases-find_parts
decreases-find_parts g l = 3 * pattern_size (tree l.p.now)

abbrev pub decreases-find_below : goal.decreases-find_below
decreases-find_below g l = 3 * pattern_size (tree l.sub.now) + 2

abbrev pub invariant-find_parts-loop-i : goal.invariant-find_parts-loop-i
invariant-find_parts-loop-i g l = Notes l.fn.finding l.finding l.place (spots_to l.p l.i)
