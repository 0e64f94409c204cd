use Rattle.std.proofs.Common.{◌≡◌, ◌++◌, drop}
use Rattle.std.specs.List.{flat_map}
use Rattle.usefulness.specs.Chosen.{unmarked_one}
use Rattle.usefulness.specs.Marking.{is_marked}
use Rattle.usefulness.proofs.chosen.add_all_unmarked.Given as goal

abbrev pub invariant-loop-uid : goal.invariant-loop-uid
invariant-loop-uid l =
    l.chosen.items ++ flat_map (unmarked_one (is_marked l.marks) l.row l.arm) (drop l.uid-index l.uids)
    ≡ l.initial.chosen.items ++ flat_map (unmarked_one (is_marked l.marks) l.row l.arm) l.uids
