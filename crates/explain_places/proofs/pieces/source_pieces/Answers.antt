use Rattle.std.proofs.Common.{subst, sym, length, List, []}
use Rattle.decl_lexer.specs.Stored.{tokens_view}
use Rattle.explain_places.specs.declared.pieces.Piece.{Piece}
use Rattle.explain_places.specs.Pieces.{ArePieces, tokens, fault}
use Rattle.explain_places.specs.Spans.{Rise}
use Rattle.explain_places.proofs.Walking.{in_order_rise}
use Rattle.explain_places.proofs.pieces.source_pieces.Goals as goal

pub returns-in_ok-all_pieces-in-Ok-clause-exact : goal.returns-in_ok-all_pieces-in-Ok-clause-exact
returns-in_ok-all_pieces-in-Ok-clause-exact c =
    subst (λ (ps : List Piece). ArePieces c.args.source.now ps) (sym c.in_ok-all_pieces-in-Ok.ensures) (tokens (tokens_view c.in-Ok.tokens) c.in-Ok.ensures.tokens)

pub returns-in_ok-all_pieces-in-Ok-clause-order : goal.returns-in_ok-all_pieces-in-Ok-clause-order
returns-in_ok-all_pieces-in-Ok-clause-order c =
    subst (λ (ps : List Piece). Rise ps) (sym c.in_ok-all_pieces-in-Ok.ensures)
    (in_order_rise 0 (length c.args.source.now) (tokens_view c.in-Ok.tokens) c.in-Ok.ensures.order 0)

pub returns-in-Err-Rule-clause-exact : goal.returns-in-Err-Rule-clause-exact
returns-in-Err-Rule-clause-exact c =
    subst (λ (ps : List Piece). ArePieces c.args.source.now ps) (sym c.new.ensures.items)
    (fault c.in-Err-Rule.field-0-0 c.in-Err-Rule.field-0-1 (rw c.in-Err-Rule.field-0-is at c.in-Err-Rule.ensures.fault))
