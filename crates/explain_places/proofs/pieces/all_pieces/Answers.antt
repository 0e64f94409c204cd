use Rattle.std.proofs.Common.{◌∙◌, ap, ◌++◌, ◌∷◌, []}
use Rattle.decl_syntax.specs.Units.{left, unit_view}
use Rattle.explain_places.specs.declared.pieces.Piece.{Piece}
use Rattle.explain_places.specs.Pieces.{depth_behind, piece_of, pieces_from}
use Rattle.explain_places.proofs.Walking.{pieces_more, pieces_all}
use Rattle.explain_places.proofs.pieces.all_pieces.Goals as goal

pub returns-in_default : goal.returns-in_default
returns-in_default c = pieces_all c.tokens.depth (left c.tokens.rest) c.tokens.pieces.items _ c.in_default.ensures c.tokens.invariant

pub tokens-preserved : goal.tokens-preserved
tokens-preserved c =
    let depth = c.tokens.depth in
    let done = c.tokens.pieces.items in
    let unit = unit_view c.in-Some.unit in
    let behind = left c.in-Some.behind in
    let next = c.depth_behind-depth.ensures ∙ ap (λ (p : Piece). depth_behind depth p.class) c.piece_of-piece.ensures in
    ap (λ l. l ++ pieces_from c.depth_behind-depth.result behind) (c.in_ok-push.ensures.items ∙ ap (λ p. done ++ p ∷ []) c.piece_of-piece.ensures)
    ∙ ap (λ n. (done ++ piece_of depth unit ∷ []) ++ pieces_from n behind) next
    ∙ pieces_more depth unit (left c.tokens.rest) behind done _ c.in-Some.ensures c.tokens.invariant
