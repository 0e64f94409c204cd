use Rattle.std.proofs.Common.{◌≡◌, ◌++◌, drop}
use Rattle.usefulness.specs.Chosen.{unmarked_from}
use Rattle.usefulness.specs.Marking.{is_marked}
use Rattle.usefulness.specs.States.{plain_askeds}
use Rattle.usefulness.proofs.chosen.unmarked_chosen.Given as goal

abbrev pub invariant-loop-i : goal.invariant-loop-i
invariant-loop-i g l =
    l.chosen.items ++ unmarked_from (is_marked l.marks) l.i (plain_askeds (drop l.i l.rows)) ≡ unmarked_from (is_marked l.marks) 0 (plain_askeds l.rows)
