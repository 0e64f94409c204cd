use Rattle.std.proofs.Common.{◌≡◌, drop}
use Rattle.explain_places.specs.Spans.{end_from}
use Rattle.explain_places.proofs.spans.end_from.Given as goal

abbrev pub invariant-loop-piece : goal.invariant-loop-piece
invariant-loop-piece l =
    end_from l.whole l.first.depth l.to (drop l.piece-index l.behind) ≡ end_from l.whole l.first.depth l.first.to l.behind
