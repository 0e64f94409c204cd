use Rattle.std.proofs.Common.{◌≡◌, ℕ, true, Some, length, take, slice_get}
use Rattle.std.specs.List.{flat_map}
use Rattle.keyed_matrix.specs.InColumns.{ctors_in}
use Rattle.keyed_matrix.specs.Views.{plain_rows}
use Rattle.keyed_matrix.specs.Steps.{row_ctors}
use Rattle.keyed_matrix.proofs.by_column.column_ctors.Given as goal

abbrev pub invariant-loop-row : goal.invariant-loop-row
invariant-loop-row g l =
    record {
      long : length l.lists.items ≡ length l.wanted;
      ctors :
          (i : ℕ) → slice_get l.wanted i ≡ Some true →
          ctors_in l.lists.items i ≡ flat_map (row_ctors i) (plain_rows (take l.row-index l.rows));
    }
