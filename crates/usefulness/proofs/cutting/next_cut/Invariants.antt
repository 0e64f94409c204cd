use Rattle.std.proofs.Common.{None}
use Rattle.std.specs.List.{All}
use Rattle.usefulness.specs.States.{is_noted}
use Rattle.usefulness.specs.Cutting.{IsCutPart, IsCutOff, parts_left, cut_work}
use Rattle.usefulness.proofs.cutting.next_cut.Given as goal

abbrev pub invariant-loop-part : goal.invariant-loop-part
invariant-loop-part g l =
    IsCutOff (is_noted l.reached) l.missing l.a l.spans (parts_left l.initial.todo.items) (parts_left l.todo.items) None × All (IsCutPart (is_noted l.reached) l.missing l.a l.spans) l.todo.items

abbrev pub decreases-loop-part : goal.decreases-loop-part
decreases-loop-part g l = cut_work l.todo.items
