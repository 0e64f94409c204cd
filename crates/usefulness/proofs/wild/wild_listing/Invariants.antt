use Rattle.std.proofs.Common.{take}
use Rattle.pattern_matrix.specs.Views.{plain_leaves}
use Rattle.usefulness.specs.Children.{dropped}
use Rattle.usefulness.specs.States.{IsListed, other_numbers, apart_rows, is_noted, scope_of}
use Rattle.usefulness.proofs.wild.wild_listing.Given as goal

abbrev pub invariant-loop-leaf : goal.invariant-loop-leaf
invariant-loop-leaf g l =
    IsListed (scope_of l.initial.reached) (is_noted l.initial.reached) l.reached (other_numbers l.a) (dropped l.a.taken.number (apart_rows l.a) (plain_leaves (take l.leaf-index l.a.leaves.items))) l.listing
