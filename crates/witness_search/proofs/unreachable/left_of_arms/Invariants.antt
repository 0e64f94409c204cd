use Rattle.std.proofs.Common.{◌≡◌, ◌++◌, map, drop}
use Rattle.match_model.specs.ArenaWays.{arena_arm}
use Rattle.pattern_arena.specs.Trees.{plain_arm}
use Rattle.witness_search.specs.Entries.{plain_entries, left_of_arms}
use Rattle.witness_search.proofs.unreachable.left_of_arms.Given as goal

abbrev pub invariant-loop-i : goal.invariant-loop-i
invariant-loop-i g l =
    plain_entries l.found.items ++ left_of_arms (g.M.Marked.is_marked l.marks) l.i (map arena_arm (map plain_arm (drop l.i l.arms)))
    ≡ left_of_arms (g.M.Marked.is_marked l.marks) 0 (map arena_arm (map plain_arm l.arms))
