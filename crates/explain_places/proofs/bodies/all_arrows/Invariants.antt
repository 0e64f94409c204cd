use Rattle.std.proofs.Common.{◌≡◌, ◌++◌, drop}
use Rattle.explain_places.specs.Bodies.{arrows_of}
use Rattle.explain_places.proofs.bodies.all_arrows.Given as goal

abbrev pub invariant-loop-piece : goal.invariant-loop-piece
invariant-loop-piece l = l.places.items ++ arrows_of (drop l.piece-index l.pieces) ≡ arrows_of l.pieces
