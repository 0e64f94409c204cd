use Rattle.std.proofs.Common.{◌≡◌, ◌++◌, map, take}
use Rattle.pat_context.specs.Views.{plain_ctor}
use Rattle.pattern_arena.specs.Trees.{tree, placed_subs}
use Rattle.keyed_matrix.specs.Choosing.{ctors_of_each}
use Rattle.keyed_matrix.proofs.taken_apart.+add_pat_ctors.Given as goal

abbrev pub invariant-loop-q : goal.invariant-loop-q
invariant-loop-q g l =
    map plain_ctor l.ctors.items
    ≡ map plain_ctor l.initial.ctors.items ++ ctors_of_each (map tree (take l.q-index (placed_subs l.p)))
