use Rattle.std.proofs.Common.{◌≡◌, take}
use Rattle.decision_tree.specs.WildColumns.{unmarked}
use Rattle.decision_tree.proofs.wild.unmarked_columns.Given as goal

abbrev pub invariant-loop-i : goal.invariant-loop-i
invariant-loop-i g l = l.all.items ≡ unmarked l.marks (take l.i l.columns)
