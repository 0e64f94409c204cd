use Rattle.std.proofs.Common.{◌≡◌, ◌+◌, ◌++◌, length, reverse, take}
use Rattle.pattern_matrix.specs.Columns.{plain_columns}
use Rattle.pattern_matrix.specs.Sparse.{columns_from}
use Rattle.witness_search.specs.Opened.{places_of, numbers_of}
use Rattle.witness_search.proofs.opened.add_parts.Given as goal

abbrev pub invariant-loop-column : goal.invariant-loop-column
invariant-loop-column g l = record {
  counted : l.number + length l.yielded ≡ l.first + length l.fn.parts.items;
  places : places_of l.opened.items ≡ plain_columns (reverse l.yielded) ++ places_of l.initial.opened.items;
  numbers : numbers_of l.opened.items ≡ columns_from l.number (length l.yielded) ++ numbers_of l.initial.opened.items;
  kept : take (length l.initial.opened.items) l.opened.items ≡ l.initial.opened.items;
}
