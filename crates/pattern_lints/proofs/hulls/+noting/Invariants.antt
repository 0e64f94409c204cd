use Rattle.std.proofs.Common.{◌+◌, ◌*◌}
use Rattle.pattern_arena.specs.Trees.{tree}
use Rattle.pattern_lints.specs.Hulls.{Widens}
use Rattle.pattern_lints.specs.Meeting.{pattern_size}
use Rattle.pattern_lints.proofs.HullLaws.{SubsAreKnownTo}
use Rattle.pattern_lints.proofs.hulls.+noting.Given as goal

abbrev pub decreases-note_in : goal.decreases-note_in
decreases-note_in g l = 2 * pattern_size (tree l.p.now) + 1

abbrev pub decreases-note_parts : goal.decreases-note_parts
decreases-note_parts g l = 2 * pattern_size (tree l.p.now)

abbrev pub invariant-note_parts-loop-q : goal.invariant-note_parts-loop-q
invariant-note_parts-loop-q g l = Widens l.fn.hulls l.hulls × SubsAreKnownTo l.hulls l.p l.q-index
