use Rattle.std.proofs.Common.{◌≡◌, length, take}
use Rattle.keyed_matrix.specs.Views.{plain_heads}
use Rattle.decision_tree.specs.WildColumns.{unmarked}
use Rattle.decision_tree.proofs.wild.list_unmarked.Given as goal

abbrev pub invariant-loop-one : goal.invariant-loop-one
invariant-loop-one g l =
    record {
      passed : l.at ≡ length (plain_heads (take l.one-index l.heads));
      kept : plain_heads l.all.items ≡ unmarked l.marks (plain_heads (take l.one-index l.heads));
    }
