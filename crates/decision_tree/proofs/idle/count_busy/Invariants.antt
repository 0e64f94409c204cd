use Rattle.std.proofs.Common.{◌≡◌, ◌≤◌, ◌+◌, drop}
use Rattle.keyed_matrix.specs.Views.{plain_heads}
use Rattle.decision_tree.specs.Cutting.{count_unless}
use Rattle.decision_tree.specs.Idle.{is_idle}
use Rattle.decision_tree.proofs.idle.count_busy.Given as goal

abbrev pub invariant-loop-one : goal.invariant-loop-one
invariant-loop-one g l =
    record {
      sum : l.count + count_unless is_idle (plain_heads (drop l.one-index l.heads)) ≡ count_unless is_idle (plain_heads l.heads);
      few : l.count ≤ l.one-index;
    }
