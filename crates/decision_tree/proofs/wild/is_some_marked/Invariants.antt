use Rattle.std.proofs.Common.{◌≡◌, drop}
use Rattle.std.specs.List.{list_any}
use Rattle.decision_tree.proofs.wild.is_some_marked.Given as goal

abbrev pub invariant-loop-mark : goal.invariant-loop-mark
invariant-loop-mark l = list_any (λ m. m) (drop l.mark-index l.marks) ≡ list_any (λ m. m) l.marks
