use Rattle.std.proofs.Common.{◌≡◌, drop}
use Rattle.explain_places.specs.Bodies.{match_end}
use Rattle.explain_places.proofs.bodies.match_end.Given as goal

abbrev pub invariant-loop-piece : goal.invariant-loop-piece
invariant-loop-piece l = match_end l.before (drop l.piece-index l.behind) ≡ match_end l.initial.before l.behind
