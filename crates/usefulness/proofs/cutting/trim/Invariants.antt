use Rattle.std.proofs.Common.{length}
use Rattle.usefulness.specs.States.{is_noted}
use Rattle.usefulness.specs.Cutting.{IsTrimmed}
use Rattle.usefulness.proofs.cutting.trim.Given as goal

abbrev pub invariant-loop-number : goal.invariant-loop-number
invariant-loop-number g l = IsTrimmed (is_noted l.reached) l.missing l.a l.initial.kept.items l.kept.items

abbrev pub decreases-loop-number : goal.decreases-loop-number
decreases-loop-number g l = length l.kept.items
