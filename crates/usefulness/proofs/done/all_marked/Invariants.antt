use Rattle.std.proofs.Common.{◌≡◌, drop}
use Rattle.usefulness.specs.Marking.{is_marked}
use Rattle.usefulness.specs.Done.{are_marked}
use Rattle.usefulness.proofs.done.all_marked.Given as goal

abbrev pub invariant-loop-id : goal.invariant-loop-id
invariant-loop-id l = are_marked (is_marked l.marks) l.arm (drop l.id-index l.ids) ≡ are_marked (is_marked l.marks) l.arm l.ids
