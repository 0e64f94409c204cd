use Rattle.std.proofs.Common.{◌≡◌, [], map, take}
use Rattle.constructor_sets.specs.Columns.{plain_ctors}
use Rattle.usefulness.specs.Listing.{AreAllListed}
use Rattle.usefulness.specs.States.{piece_view, is_noted, scope_of}
use Rattle.usefulness.proofs.lone.enter_all.Given as goal

abbrev pub invariant-loop-i : goal.invariant-loop-i
invariant-loop-i g l =
    (scope_of l.reached ≡ scope_of l.initial.reached)
    × AreAllListed (g.C.PatCx.is_value l.cx) (is_noted l.initial.reached) (is_noted l.reached) (map (piece_view (g.C.PatCx.context l.cx) l.a l.missing) (take l.i (plain_ctors l.pieces))) []
