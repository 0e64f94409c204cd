use Rattle.std.proofs.Common.{◌≡◌, ◌++◌, map, take}
use Rattle.pattern_arena.specs.Trees.{tree, placed_subs}
use Rattle.pattern_matrix.specs.Counting.{through_alternative}
use Rattle.witness_search.specs.Entries.{plain_entries, left_of_each}
use Rattle.witness_search.proofs.unreachable.+walking.Given as goal

abbrev pub invariant-add_left-loop-q : goal.invariant-add_left-loop-q
invariant-add_left-loop-q g l =
    plain_entries l.found.items ≡ plain_entries l.initial.found.items
    ++ left_of_each (λ id. g.M.Marked.is_marked l.marks (through_alternative l.arm id)) l.arm l.chosen (map tree (take l.q-index (placed_subs l.p)))
