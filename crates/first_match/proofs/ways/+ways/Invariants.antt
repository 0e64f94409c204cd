use Rattle.std.proofs.Common.{◌≡◌, ◌≤◌, ◌+◌, suc, map, take, drop, length}
use Rattle.match_model.specs.ArenaPatterns.{de_pats_of}
use Rattle.pattern_arena.specs.Trees.{tree}
use Rattle.tree_eval.specs.Views.{plain_value}
use Rattle.first_match.specs.Bound.{bound_in, bound_on, weight, weight_all}
use Rattle.first_match.specs.Names.{names_held}
use Rattle.first_match.specs.Parts.{plain_met}
use Rattle.first_match.proofs.ways.+ways.Given as goal

abbrev pub decreases-ways_of : goal.decreases-ways_of
decreases-ways_of g l = suc (weight (tree l.p.now) + weight (tree l.p.now))

abbrev pub decreases-ways_by_ctor : goal.decreases-ways_by_ctor
decreases-ways_by_ctor g l = weight (tree l.p.now) + weight (tree l.p.now)

abbrev pub decreases-ways_in : goal.decreases-ways_in
decreases-ways_in g l = weight_all (de_pats_of (map tree l.patterns.now)) + weight_all (de_pats_of (map tree l.patterns.now))

abbrev pub decreases-ways_on : goal.decreases-ways_on
decreases-ways_on g l = weight_all (de_pats_of (map tree l.patterns.now)) + weight_all (de_pats_of (map tree l.patterns.now))

abbrev pub invariant-ways_in-loop-pattern : goal.invariant-ways_in-loop-pattern
invariant-ways_in-loop-pattern g l =
    map (λ w. names_held w.items) l.all.items
    ≡ take l.most (bound_in (de_pats_of (map tree (take l.pattern-index l.patterns))) (plain_value l.value))

abbrev pub invariant-ways_on-loop-left : goal.invariant-ways_on-loop-left
invariant-ways_on-loop-left g l =
    (l.left ≤ length l.patterns) ×
    (map (λ w. names_held w.items) l.all.items
    ≡ take l.most (bound_on (de_pats_of (map tree (drop l.left l.patterns))) (drop l.left (plain_met l.parts))))

abbrev pub decreases-ways_on-loop-left : goal.decreases-ways_on-loop-left
decreases-ways_on-loop-left g l = l.left
