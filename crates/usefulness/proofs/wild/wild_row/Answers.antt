use Rattle.std.proofs.Common.{◌∷◌, sym, subst}
use Rattle.pattern_matrix.specs.Views.{plain_leaf}
use Rattle.usefulness.specs.Frames.{IsRowIn}
use Rattle.usefulness.specs.States.{plain_asked, apart_rows}
use Rattle.usefulness.proofs.Reading.{got_at}
use Rattle.usefulness.proofs.RowFacts.{at_get, dropped_in}
use Rattle.usefulness.proofs.wild.wild_row.Goals as goal

pub returns-clause-row : goal.returns-clause-row
returns-clause-row g c = λ scope columns h.
    let a = c.args.a.now in
    let x = c.index-asked.result.now in
    let within = at_get (IsRowIn scope (a.taken.number ∷ columns)) (apart_rows a) c.args.leaf.now.row (plain_asked x) h (got_at plain_asked a.rows.items c.args.leaf.now.row x c.requires.within c.index-asked.ensures) in
    subst (λ r. IsRowIn scope columns (record { row = r; wanted = x.wanted })) (sym c.in_ok-row.ensures) (dropped_in scope a.taken.number columns (plain_leaf c.args.leaf.now) (plain_asked x) within)
