use Rattle.std.proofs.Common.{◌∷◌, [], map, take}
use Rattle.pattern_arena.specs.Trees.{plain_arm}
use Rattle.pattern_matrix.specs.Starting.{starting_rows}
use Rattle.usefulness.specs.Scope.{scope_for}
use Rattle.usefulness.specs.Starting.{wanted_all}
use Rattle.usefulness.specs.States.{IsListed, is_noted}
use Rattle.usefulness.proofs.search.arm_listing.Given as goal

abbrev pub invariant-loop-i : goal.invariant-loop-i
invariant-loop-i g l =
    IsListed (scope_for (map plain_arm l.arms)) (is_noted l.initial.reached) l.reached (0 ∷ []) (wanted_all (starting_rows 0 (map plain_arm (take l.i l.arms)))) l.listing
