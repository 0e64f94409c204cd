use Rattle.std.proofs.Common.{◌≡◌, length, take}
use Rattle.keyed_matrix.specs.InColumns.{ctors_from, HaveMore}
use Rattle.keyed_matrix.specs.Views.{plain_heads}
use Rattle.keyed_matrix.proofs.by_column.add_row_ctors.Given as goal

abbrev pub invariant-loop-one : goal.invariant-loop-one
invariant-loop-one g l =
    record {
      passed : l.at ≡ length (plain_heads (take l.one-index l.heads));
      more :
          HaveMore l.wanted l.initial.lists.items l.lists.items (ctors_from 0 (plain_heads (take l.one-index l.heads)));
    }
