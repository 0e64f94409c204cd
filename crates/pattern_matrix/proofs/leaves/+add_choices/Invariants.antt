use Rattle.std.proofs.Common.{◌≡◌, ◌++◌, map, take}
use Rattle.pattern_arena.specs.Trees.{tree, placed_subs}
use Rattle.pattern_matrix.specs.Views.{plain_leaves}
use Rattle.pattern_matrix.specs.ChosenLists.{kept_chosen}
use Rattle.pattern_matrix.specs.Spreading.{spread_each}
use Rattle.pattern_matrix.proofs.leaves.+add_choices.Given as goal

abbrev pub invariant-loop-q : goal.invariant-loop-q
invariant-loop-q g l =
    plain_leaves l.leaves.items ≡ plain_leaves l.initial.leaves.items ++ spread_each l.row (kept_chosen l.chosen) l.several (map tree (take l.q-index (placed_subs l.p)))
