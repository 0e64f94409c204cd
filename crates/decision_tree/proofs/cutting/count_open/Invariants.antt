use Rattle.std.proofs.Common.{◌≡◌, ◌≤◌, ◌+◌, drop}
use Rattle.keyed_matrix.specs.Views.{plain_heads}
use Rattle.decision_tree.specs.Cutting.{open_count}
use Rattle.decision_tree.proofs.cutting.count_open.Given as goal

abbrev pub invariant-loop-one : goal.invariant-loop-one
invariant-loop-one g l =
    record {
      sum : l.count + open_count (plain_heads (drop l.one-index l.heads)) ≡ open_count (plain_heads l.heads);
      few : l.count ≤ l.one-index;
    }
