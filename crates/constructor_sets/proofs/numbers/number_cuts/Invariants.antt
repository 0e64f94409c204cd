use Rattle.std.proofs.Common.{drop, filter_map}
use Rattle.match_model.specs.Pieces.{range_of}
use Rattle.range_split.specs.Ranges.{plain_range}
use Rattle.range_split.specs.Cuts.{plain_cuts}
use Rattle.range_split.proofs.Gathering.{Gathered}
use Rattle.constructor_sets.specs.Columns.{plain_ctors}
use Rattle.constructor_sets.proofs.numbers.number_cuts.Given as goal

abbrev pub invariant-loop-head : goal.invariant-loop-head
invariant-loop-head l =
    Gathered (plain_range l.whole) (filter_map range_of (plain_ctors l.heads)) l.cuts.begun (plain_cuts l.cuts.places.items) (filter_map range_of (plain_ctors (drop l.head-index l.heads))) l.head-index
