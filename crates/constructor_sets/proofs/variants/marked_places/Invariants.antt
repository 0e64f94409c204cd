use Rattle.std.proofs.Common.{◌≡◌, get_or, false}
use Rattle.std.specs.List.{filter}
use Rattle.match_model.specs.Pieces.{each_below}
use Rattle.constructor_sets.proofs.variants.marked_places.Given as goal

abbrev pub invariant-loop-place : goal.invariant-loop-place
invariant-loop-place l = l.marked.items ≡ filter (λ k. get_or l.marks k false) (each_below (λ k. k) l.place)
