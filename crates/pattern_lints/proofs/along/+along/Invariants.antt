use Rattle.std.proofs.Common.{◌+◌, ◌*◌, length}
use Rattle.pattern_lints.proofs.along.+along.Given as goal

abbrev pub decreases-along : goal.decreases-along
decreases-along g l = 4 * (length l.path.now + length l.other.now) + 3

abbrev pub decreases-first_along : goal.decreases-first_along
decreases-first_along g l = 4 * (length l.path.now + length l.other.now) + 2

abbrev pub decreases-second_along : goal.decreases-second_along
decreases-second_along g l = 4 * (length l.path.now + length l.other.now) + 2

abbrev pub decreases-both_along : goal.decreases-both_along
decreases-both_along g l = 4 * (length l.path.now + length l.other.now) + 2

abbrev pub decreases-parts_along : goal.decreases-parts_along
decreases-parts_along g l = 4 * (length l.rest.now + length l.behind.now) + 5
