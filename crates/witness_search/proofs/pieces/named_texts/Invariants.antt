use Rattle.std.proofs.Common.{◌≡◌, ◌++◌, map, drop, filter_map}
use Rattle.match_model.specs.Pieces.{text_of}
use Rattle.constructor_sets.specs.Columns.{plain_piece}
use Rattle.witnesses.specs.Views.{plain_names}
use Rattle.witness_search.proofs.pieces.named_texts.Given as goal

abbrev pub invariant-loop-piece : goal.invariant-loop-piece
invariant-loop-piece l =
    plain_names l.all.items ++ filter_map text_of (map (λ p. p.0) (map plain_piece (drop l.piece-index l.pieces)))
    ≡ filter_map text_of (map (λ p. p.0) (map plain_piece l.pieces))
