use Rattle.std.proofs.Common.{◌≡◌, ◌<◌, ℕ, [], List, map, length, subst, sym}
use Rattle.std.specs.List.{All}
use Rattle.match_model.specs.Matrices.{default_rows}
use Rattle.pattern_matrix.specs.Columns.{plain_column}
use Rattle.pattern_matrix.specs.Halving.{leaf_ctors}
use Rattle.pattern_matrix.specs.Opening.{dropped_rows}
use Rattle.pattern_matrix.specs.Sparse.{SparseRow, bare_row, row_views, leaf_views, AreBelow}
use Rattle.pattern_matrix.specs.Views.{plain_rows, plain_leaves}
use Rattle.pattern_matrix.specs.declared.rows.Leaf.{Leaf}
use Rattle.pattern_matrix.specs.declared.rows.Row.{Row}
use Rattle.witness_search.specs.Opened.{places_of, numbers_of}
use Rattle.witness_search.proofs.Askable.{behind_askable}
use Rattle.witness_search.proofs.Plain.{within_code}
use Rattle.witness_search.proofs.Stepping.{others_lack, behind_well, behind_back}
use Rattle.witness_search.proofs.apart.rows_behind.Goals as goal

-- the rows that code lends, and the leaves
as_default : {T : Type 0} (numbers : List ℕ) (lent rows : List (Row T)) (seen leaves : List (Leaf T)) (new : List (SparseRow T)) → lent ≡ rows → seen ≡ leaves →
    row_views numbers new ≡ map bare_row (default_rows [] (leaf_views numbers (plain_rows lent) (plain_leaves seen))) →
    row_views numbers new ≡ map bare_row (default_rows [] (leaf_views numbers (plain_rows rows) (plain_leaves leaves)))
as_default {T = T} numbers lent rows seen leaves new e f h =
    subst (λ (ls : List (Leaf T)). row_views numbers new ≡ map bare_row (default_rows [] (leaf_views numbers (plain_rows rows) (plain_leaves ls)))) f
    (subst (λ (rs : List (Row T)). row_views numbers new ≡ map bare_row (default_rows [] (leaf_views numbers (plain_rows rs) (plain_leaves seen)))) e h)

pub wild_rows-requires : goal.wild_rows-requires
wild_rows-requires g c =
    let e = c.args.e.now in
    record {
      within = subst (λ (rs : List (Row g.row.C-Ty.Denot)). All (λ l. l.row < length rs) c.deref-2.result.now) (sym c.deref.ensures.value)
          (subst (All (λ l. l.row < length e.rows.items)) (sym c.deref-2.ensures.value) (within_code e.rows.items e.leaves.items c.requires.within));
    }

pub returns-clause-well : goal.returns-clause-well
returns-clause-well g c =
    let cx = c.args.cx.now in
    let e = c.args.e.now in
    let others = c.args.others.now.items in
    let numbers = numbers_of others in
    let new = plain_rows c.in_ok-rows.rows.items in
    behind_well (g.C.PatCx.is_type cx) (g.C.PatCx.context cx) e.next e.place.number (plain_column e.place.column) numbers (places_of others) (plain_rows e.rows.items) new (plain_leaves e.leaves.items)
    (leaf_ctors (plain_leaves e.leaves.items)) c.requires
    (as_default numbers c.deref.result.now e.rows.items c.deref-2.result.now e.leaves.items new c.deref.ensures.value c.deref-2.ensures.value
    (c.in_ok-rows.ensures.rows [] numbers (others_lack e.place.number e.next numbers c.requires.others)))
    (c.in_ok-rows.ensures.within e.next (subst (λ (rs : List (Row g.row.C-Ty.Denot)). AreBelow e.next (plain_rows rs)) (sym c.deref.ensures.value) c.requires.below))

pub returns-clause-askable : goal.returns-clause-askable
returns-clause-askable g c =
    let cx = c.args.cx.now in
    let e = c.args.e.now in
    let others = c.args.others.now.items in
    let new = plain_rows c.in_ok-rows.rows.items in
    λ arms. behind_askable arms (g.C.PatCx.is_value cx) e.place.number (numbers_of others) (places_of others) (plain_rows e.rows.items) new (plain_leaves e.leaves.items)
    (subst (λ (ls : List (Leaf g.row.C-Ty.Denot)). new ≡ dropped_rows e.place.number (plain_rows e.rows.items) (plain_leaves ls)) c.deref-2.ensures.value
    (subst (λ (rs : List (Row g.row.C-Ty.Denot)). new ≡ dropped_rows e.place.number (plain_rows rs) (plain_leaves c.deref-2.result.now)) c.deref.ensures.value c.in_ok-rows.ensures.dropped))

pub returns-clause-behind : goal.returns-clause-behind
returns-clause-behind g c =
    let cx = c.args.cx.now in
    let e = c.args.e.now in
    let others = c.args.others.now.items in
    let numbers = numbers_of others in
    let new = plain_rows c.in_ok-rows.rows.items in
    behind_back (g.C.PatCx.is_type cx) (g.C.PatCx.context cx) (g.C.PatCx.is_value cx) numbers (places_of others) (plain_rows e.rows.items) new (plain_leaves e.leaves.items)
    (as_default numbers c.deref.result.now e.rows.items c.deref-2.result.now e.leaves.items new c.deref.ensures.value c.deref-2.ensures.value
    (c.in_ok-rows.ensures.rows [] numbers (others_lack e.place.number e.next numbers c.requires.others)))
