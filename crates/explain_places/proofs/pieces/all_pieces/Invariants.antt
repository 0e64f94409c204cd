use Rattle.std.proofs.Common.{◌≡◌, ◌++◌, length}
use Rattle.decl_lexer.specs.Stored.{tokens_view}
use Rattle.decl_syntax.specs.Units.{left, units}
use Rattle.explain_places.specs.Pieces.{pieces_from}
use Rattle.explain_places.proofs.pieces.all_pieces.Given as goal

abbrev pub invariant-tokens : goal.invariant-tokens
invariant-tokens l = l.pieces.items ++ pieces_from l.depth (left l.rest) ≡ pieces_from 0 (units (tokens_view l.tokens))

abbrev pub decreases-tokens : goal.decreases-tokens
decreases-tokens l = length (left l.rest)
