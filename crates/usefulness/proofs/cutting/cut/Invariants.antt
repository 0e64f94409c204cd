use Rattle.std.proofs.Common.{take}
use Rattle.usefulness.specs.States.{is_noted}
use Rattle.usefulness.specs.Cutting.{IsCutSoFar}
use Rattle.usefulness.proofs.cutting.cut.Given as goal

abbrev pub invariant-loop-k : goal.invariant-loop-k
invariant-loop-k g l = IsCutSoFar (is_noted l.reached) l.missing l.a l.spans l.part.first l.part.end (take l.k-index l.part.leaves.items) l.kept.items
