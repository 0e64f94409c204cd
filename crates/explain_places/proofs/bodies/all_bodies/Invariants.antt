use Rattle.std.proofs.Common.{◌≡◌, ◌++◌, drop}
use Rattle.explain_places.specs.Bodies.{bodies_from, bodies_of}
use Rattle.explain_places.proofs.bodies.all_bodies.Given as goal

abbrev pub invariant-loop-at : goal.invariant-loop-at
invariant-loop-at l = l.bodies.items ++ bodies_from l.waits (drop l.at l.pieces) ≡ bodies_of l.pieces
