use Rattle.std.proofs.Common.{◌≡◌, map, length, take}
use Rattle.keyed_matrix.specs.Views.{plain_caught, plain_columns, plain_heads}
use Rattle.decision_tree.specs.WildColumns.{marked_binds}
use Rattle.decision_tree.proofs.wild.marked_names.Given as goal

abbrev pub invariant-loop-one : goal.invariant-loop-one
invariant-loop-one g l =
    record {
      passed : l.at ≡ length (plain_heads (take l.one-index l.heads));
      named : map plain_caught l.all.items
          ≡ marked_binds l.marks (plain_columns l.columns) (plain_heads (take l.one-index l.heads));
    }
