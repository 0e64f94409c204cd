use Rattle.std.proofs.Common.{◌≡◌, drop}
use Rattle.explain_places.specs.Spans.{name_in}
use Rattle.explain_places.proofs.spans.name_in.Given as goal

abbrev pub invariant-loop-piece : goal.invariant-loop-piece
invariant-loop-piece l = name_in l.first (drop l.piece-index l.pieces) ≡ name_in l.first l.pieces
