use Rattle.std.proofs.Common.{◌∷◌, ◌++◌, sym, subst}
use Rattle.pattern_matrix.specs.Sparse.{columns_from}
use Rattle.pattern_matrix.specs.Views.{plain_leaf}
use Rattle.usefulness.specs.Frames.{IsRowIn}
use Rattle.usefulness.specs.States.{plain_asked, apart_rows}
use Rattle.usefulness.proofs.Inside.{parts_known}
use Rattle.usefulness.proofs.Reading.{got_at}
use Rattle.usefulness.proofs.RowFacts.{at_get, opened_in}
use Rattle.usefulness.proofs.entering.piece_row.Goals as goal

pub returns-clause-row : goal.returns-clause-row
returns-clause-row g c = λ scope columns k h.
    let a = c.args.a.now in
    let x = c.index-asked.result.now in
    let within = at_get (IsRowIn scope (a.taken.number ∷ columns)) (apart_rows a) c.args.leaf.now.row (plain_asked x) h (got_at plain_asked a.rows.items c.args.leaf.now.row x c.requires.within c.index-asked.ensures) in
    subst (λ r. IsRowIn scope (columns_from a.next c.args.count ++ columns) (record { row = r; wanted = c.if-asked.result })) (sym c.in_ok-row.ensures)
    (opened_in scope a.taken.number a.next c.args.count columns c.if-asked.result (plain_leaf c.args.leaf.now) (plain_asked x) c.requires.parts (parts_known scope c.args.count (plain_leaf c.args.leaf.now).head k) within)
