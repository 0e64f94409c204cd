use Rattle.std.proofs.Common.{take, ◌++◌}
use Rattle.pattern_matrix.specs.Sparse.{columns_from, leaves_listed}
use Rattle.usefulness.specs.Children.{opened}
use Rattle.usefulness.specs.States.{IsListed, other_numbers, apart_rows, apart_leaves, is_noted, scope_of}
use Rattle.usefulness.proofs.entering.opened_listing.Given as goal

abbrev pub invariant-loop-k : goal.invariant-loop-k
invariant-loop-k g l =
    IsListed (scope_of l.initial.reached) (is_noted l.initial.reached) l.reached (columns_from l.a.next l.count ++ other_numbers l.a)
    (opened l.missing l.a.taken.number l.a.next l.count (apart_rows l.a) (leaves_listed (apart_leaves l.a) (take l.k-index l.leaves))) l.listing
