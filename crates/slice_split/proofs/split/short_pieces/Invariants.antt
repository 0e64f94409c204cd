use Rattle.std.proofs.Common.{◌≡◌, map}
use Rattle.std.specs.List.{All}
use Rattle.match_model.specs.Constructors.{FixedShape}
use Rattle.match_model.specs.Pieces.{each_below}
use Rattle.slice_split.specs.Shapes.{plain_shape}
use Rattle.slice_split.specs.Lengths.{is_marked}
use Rattle.slice_split.proofs.split.short_pieces.Given as goal

abbrev pub invariant-loop-place : goal.invariant-loop-place
invariant-loop-place l =
    (map (λ p. plain_shape p.0) l.pieces.items ≡ each_below FixedShape l.place) × All (λ p. p.1 ≡ is_marked l.marks l.least (plain_shape p.0)) l.pieces.items
