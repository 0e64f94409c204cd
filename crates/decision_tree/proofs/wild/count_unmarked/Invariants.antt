use Rattle.std.proofs.Common.{◌≡◌, ◌≤◌, ◌+◌, drop, length}
use Rattle.decision_tree.specs.WildColumns.{unmarked}
use Rattle.decision_tree.proofs.wild.count_unmarked.Given as goal

abbrev pub invariant-loop-mark : goal.invariant-loop-mark
invariant-loop-mark l =
    record {
      sum : l.count + length (unmarked (drop l.mark-index l.marks) (drop l.mark-index l.marks)) ≡ length (unmarked l.marks l.marks);
      few : l.count ≤ l.mark-index;
    }
