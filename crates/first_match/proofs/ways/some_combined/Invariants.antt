use Rattle.std.proofs.Common.{◌≡◌, map, take}
use Rattle.first_match.specs.Bound.{all_both}
use Rattle.first_match.specs.Names.{names_held}
use Rattle.first_match.proofs.ways.some_combined.Given as goal

abbrev pub invariant-loop-first : goal.invariant-loop-first
invariant-loop-first l =
    map (λ w. names_held w.items) l.all.items
    ≡ take l.most (all_both (map (λ w. names_held w.items) (take l.first-index l.firsts)) (map (λ w. names_held w.items) l.seconds))
