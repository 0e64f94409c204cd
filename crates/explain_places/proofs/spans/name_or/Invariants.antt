use Rattle.std.proofs.Common.{◌≡◌, drop}
use Rattle.explain_places.specs.Spans.{name_or}
use Rattle.explain_places.proofs.spans.name_or.Given as goal

abbrev pub invariant-loop-piece : goal.invariant-loop-piece
invariant-loop-piece l = name_or l.first (drop l.piece-index l.pieces) ≡ name_or l.first l.pieces
