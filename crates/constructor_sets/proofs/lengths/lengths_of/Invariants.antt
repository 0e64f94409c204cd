use Rattle.std.proofs.Common.{drop}
use Rattle.constructor_sets.specs.Columns.{plain_ctors}
use Rattle.constructor_sets.proofs.RowLengths.{Gathered}
use Rattle.constructor_sets.proofs.lengths.lengths_of.Given as goal

abbrev pub invariant-loop-head : goal.invariant-loop-head
invariant-loop-head l = Gathered (plain_ctors (drop l.head-index l.column)) (plain_ctors l.column) l.lengths
