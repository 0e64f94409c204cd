use Rattle.std.proofs.Common.{◌≡◌, length, take}
use Rattle.keyed_matrix.specs.Views.{plain_heads}
use Rattle.decision_tree.specs.WildColumns.{StayWhereWild}
use Rattle.decision_tree.proofs.wild.mark_row.Given as goal

abbrev pub invariant-loop-one : goal.invariant-loop-one
invariant-loop-one g l =
    record {
      passed : l.at ≡ length (plain_heads (take l.one-index l.heads));
      marks : StayWhereWild 0 (plain_heads (take l.one-index l.heads)) l.initial.marks l.marks;
    }
