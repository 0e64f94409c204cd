use Rattle.std.proofs.Common.{sym, ap, nat_eq, ◌∙◌}
use Rattle.std.specs.List.{list_all}
use Rattle.pattern_matrix.specs.Views.{plain_heads, plain_leaf, plain_row}
use Rattle.witness_search.proofs.CoveredPieces.{row_bare, none_elsewhere}
use Rattle.witness_search.proofs.covered.is_bare.Goals as goal

pub returns-then-writes_none : goal.returns-then-writes_none
returns-then-writes_none g c = λ e first count.
    let column = c.args.column in
    let row = plain_row c.args.row.now in
    row_bare column first count (plain_leaf c.args.leaf.now) row (c.writes_none.ensures c.if-writes_none.true first count) (none_elsewhere column row.heads (sym (c.stands_alone.ensures ∙ ap (λ hs. list_all (λ h. nat_eq h.0 column) (plain_heads hs)) c.as_slice.ensures) ∙ e))
