use Rattle.std.proofs.Common.{◌≡◌, ◌++◌, map, take}
use Rattle.match_model.specs.Ways.{bindings_of_both}
use Rattle.first_match.specs.Names.{names_held}
use Rattle.first_match.proofs.ways.add_joined.Given as goal

abbrev pub invariant-loop-way : goal.invariant-loop-way
invariant-loop-way l =
    map (λ w. names_held w.items) l.all.items
    ≡ take l.most (map (λ w. names_held w.items) l.fn.all.items
    ++ map (bindings_of_both (names_held l.first)) (map (λ w. names_held w.items) (take l.way-index l.ways)))
