use Rattle.std.proofs.Common.{◌≡◌, ◌+◌, ◌-◌, ◌++◌, length, drop}
use Rattle.pattern_matrix.specs.Columns.{plain_columns}
use Rattle.pattern_matrix.specs.Sparse.{columns_from}
use Rattle.usefulness.specs.Frames.{numbers, places}
use Rattle.usefulness.specs.States.{plain_opens}
use Rattle.usefulness.proofs.entering.number_columns.Given as goal

abbrev pub invariant-loop-i : goal.invariant-loop-i
invariant-loop-i g l = record {
  numbers : numbers (plain_opens l.numbered.items) ++ columns_from (l.first + l.i) (length l.columns - l.i) ≡ columns_from l.first (length l.columns);
  places : places (plain_opens l.numbered.items) ++ plain_columns (drop l.i l.columns) ≡ plain_columns l.columns;
}
