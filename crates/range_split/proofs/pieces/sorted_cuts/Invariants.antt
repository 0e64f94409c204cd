use Rattle.std.proofs.Common.{drop}
use Rattle.range_split.specs.Ranges.{plain_range}
use Rattle.range_split.specs.Splits.{plain_ranges}
use Rattle.range_split.specs.Cuts.{plain_cuts}
use Rattle.range_split.proofs.Gathering.{Gathered}
use Rattle.range_split.proofs.pieces.sorted_cuts.Given as goal

abbrev pub invariant-loop-column : goal.invariant-loop-column
invariant-loop-column l =
    Gathered (plain_range l.whole) (plain_ranges l.columns) l.cuts.begun (plain_cuts l.cuts.places.items) (plain_ranges (drop l.column-index l.columns)) l.column-index
