use Rattle.std.proofs.Common.{◌≡◌, ◌≤◌, map}
use Rattle.pattern_arena.specs.Trees.{tree}
use Rattle.tree_eval.specs.Views.{plain_value}
use Rattle.first_match.specs.Bound.{bound_ways, weight}
use Rattle.first_match.specs.Names.{plain_seen, put_all}
use Rattle.first_match.proofs.ways.behind_references.Given as goal

abbrev pub invariant-behind : goal.invariant-behind
invariant-behind g l =
    (weight (tree l.at.pattern.now) ≤ weight (tree l.fn.p)) ×
    (bound_ways (tree l.fn.p) (plain_value l.fn.value)
    ≡ map (put_all (map plain_seen l.seen.items)) (bound_ways (tree l.at.pattern.now) (plain_value l.at.value.now)))

abbrev pub decreases-behind : goal.decreases-behind
decreases-behind g l = weight (tree l.at.pattern.now)
