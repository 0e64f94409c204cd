use Rattle.std.proofs.Common.{◌≡◌, ◌++◌, map, take}
use Rattle.pattern_arena.specs.Trees.{plain_bound}
use Rattle.tree_eval.specs.Views.{plain_value}
use Rattle.first_match.specs.Names.{bound_to, plain_seen}
use Rattle.first_match.proofs.names.add_names.Given as goal

abbrev pub invariant-loop-bound : goal.invariant-loop-bound
invariant-loop-bound l =
    map plain_seen l.seen.items
    ≡ map plain_seen l.fn.seen.items ++ map (bound_to (plain_value l.value)) (map plain_bound (take l.bound-index l.binds))
