use Rattle.std.proofs.Common.{drop}
use Rattle.range_split.specs.Ranges.{plain_range}
use Rattle.range_split.specs.Cuts.{plain_cuts}
use Rattle.range_split.specs.Walks.{pieces_from}
use Rattle.constructor_sets.proofs.Walking.{Handed}
use Rattle.constructor_sets.proofs.numbers.add_pieces.Given as goal

abbrev pub invariant-loop-cut : goal.invariant-loop-cut
invariant-loop-cut l =
    Handed (plain_range l.whole).high (pieces_from (plain_range l.whole).low (plain_range l.whole).high l.cuts.begun 0 (plain_cuts l.cuts.places.items)) l.walk
    (drop l.cut-index l.cuts.places.items) l.cut-index l.initial.found l.found
