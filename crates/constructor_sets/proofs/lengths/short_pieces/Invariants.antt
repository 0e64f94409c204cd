use Rattle.std.proofs.Common.{◌≡◌}
use Rattle.match_model.specs.Pieces.{each_below}
use Rattle.constructor_sets.specs.Columns.{plain_flagged}
use Rattle.constructor_sets.specs.RowLengths.{length_piece}
use Rattle.constructor_sets.proofs.lengths.short_pieces.Given as goal

abbrev pub invariant-loop-len : goal.invariant-loop-len
invariant-loop-len l = plain_flagged l.pieces.items ≡ each_below (length_piece l.lengths.marks.items l.lengths.least) l.len
