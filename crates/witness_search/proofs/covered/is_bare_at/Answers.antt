use Rattle.std.proofs.Common.{◌<◌, length, sym, subst}
use Rattle.pattern_matrix.specs.Views.{plain_leaf, plain_leaves, plain_row, plain_rows}
use Rattle.pattern_matrix.specs.declared.rows.Leaf.{Leaf}
use Rattle.pattern_matrix.proofs.Getting.{got}
use Rattle.witness_search.proofs.CoveredPieces.{one_bare}
use Rattle.witness_search.proofs.covered.is_bare_at.Goals as goal

pub returns : goal.returns
returns g c = λ h first count.
    let e = c.args.e.now in
    let leaf = c.index-leaf.result.now in
    let row = c.index.result.now in
    let within = subst (λ (l : Leaf g.row.T.Denot). l.row < length e.rows.items) (sym c.index-leaf.ensures) (c.requires.rows c.args.number leaf c.requires.within) in
    one_bare e.place.number first count (plain_rows e.rows.items) (plain_leaves e.leaves.items) c.args.number (plain_leaf leaf) (plain_row row)
    (got plain_leaf e.leaves.items c.args.number leaf c.requires.within c.index-leaf.ensures)
    (got plain_row e.rows.items leaf.row row within c.index.ensures) (c.is_bare.ensures h first count)
