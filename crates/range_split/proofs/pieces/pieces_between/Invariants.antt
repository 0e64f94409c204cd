use Rattle.std.proofs.Common.{drop}
use Rattle.range_split.specs.Ranges.{plain_range}
use Rattle.range_split.specs.Splits.{plain_pieces}
use Rattle.range_split.specs.Cuts.{plain_cuts}
use Rattle.range_split.specs.Walks.{pieces_from}
use Rattle.range_split.proofs.Steps.{Walked}
use Rattle.range_split.proofs.pieces.pieces_between.Given as goal

abbrev pub invariant-loop-cut : goal.invariant-loop-cut
invariant-loop-cut l =
    Walked (plain_range l.whole).high (pieces_from (plain_range l.whole).low (plain_range l.whole).high l.cuts.begun 0 (plain_cuts l.cuts.places.items)) (plain_pieces l.pieces.items) l.walk
    (drop l.cut-index l.cuts.places.items) l.cut-index
