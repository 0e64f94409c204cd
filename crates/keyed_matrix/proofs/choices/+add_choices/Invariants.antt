use Rattle.std.proofs.Common.{◌≡◌, ◌++◌, map, take}
use Rattle.pattern_arena.specs.Trees.{tree, placed_subs, plain_bound}
use Rattle.keyed_matrix.specs.Choosing.{plain_choices, choices_of_each}
use Rattle.keyed_matrix.proofs.choices.+add_choices.Given as goal

abbrev pub invariant-loop-q : goal.invariant-loop-q
invariant-loop-q g l =
    plain_choices l.all.items
    ≡ plain_choices l.initial.all.items ++ choices_of_each l.fn.chosen.items (map plain_bound l.around.items) l.several (map tree (take l.q-index (placed_subs l.p)))
