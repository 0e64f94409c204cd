use Rattle.std.proofs.Common.{◌≡◌, ◌&&◌, ◌||◌, nat_eq, take}
use Rattle.std.specs.List.{list_any}
use Rattle.pattern_matrix.specs.Counting.{Question}
use Rattle.usefulness.specs.Marking.{is_asked}
use Rattle.usefulness.proofs.marks.add_all.Given as goal

abbrev pub invariant-loop-uid : goal.invariant-loop-uid
invariant-loop-uid l = (q : Question) → list_any (is_asked q) l.alternatives.keys
    ≡ (list_any (is_asked q) l.initial.alternatives.keys || (nat_eq q.arm l.arm && list_any (nat_eq q.id) (take l.uid-index l.chosen)))
