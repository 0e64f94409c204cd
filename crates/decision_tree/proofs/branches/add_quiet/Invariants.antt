use Rattle.std.proofs.Common.{◌≡◌, ◌++◌, false, replicate}
use Rattle.decision_tree.proofs.branches.add_quiet.Given as goal

abbrev pub invariant-loop-k : goal.invariant-loop-k
invariant-loop-k l = l.all.items ≡ l.initial.all.items ++ replicate l._k false
