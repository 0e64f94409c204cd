use Rattle.std.proofs.Common.{◌≡◌, ◌<◌, ◌∷◌, [], List, map, length, refl, subst}
use Rattle.std.specs.List.{All}
use Rattle.match_model.specs.Matrices.{expand_rows}
use Rattle.pattern_matrix.specs.Columns.{plain_column}
use Rattle.pattern_matrix.specs.Halving.{leaf_ctors}
use Rattle.pattern_matrix.specs.Sparse.{bare_row, row_views, leaf_views}
use Rattle.pattern_matrix.specs.Spreading.{all_apart}
use Rattle.pattern_matrix.specs.declared.rows.Row.{Row}
use Rattle.pattern_matrix.specs.Views.{plain_rows, plain_leaves}
use Rattle.witness_search.specs.Opened.{places_of, numbers_of}
use Rattle.witness_search.proofs.Askable.{apart_askable}
use Rattle.witness_search.proofs.Plain.{within_plain}
use Rattle.witness_search.proofs.Stepping.{apart_is}
use Rattle.witness_search.proofs.apart.take_apart.Goals as goal

pub returns-clause-askable : goal.returns-clause-askable
returns-clause-askable g c =
    let cx = c.args.cx.now in
    let others = c.args.others.now.items in
    let leaves = plain_leaves c.in_ok-leaves.leaves.items in
    λ arms. apart_askable arms (g.C.PatCx.is_value cx) c.args.place.number (plain_column c.args.place.column) (numbers_of others) (places_of others) (plain_rows c.args.rows.items) leaves
    (subst (λ (rs : List (Row g.row.C-Ty.Denot)). leaves ≡ all_apart c.args.place.number 0 (plain_rows rs)) c.deref.ensures.value c.in_ok-leaves.ensures.leaves)

pub returns-clause-apart : goal.returns-clause-apart
returns-clause-apart g c =
    let cx = c.args.cx.now in
    let rows = c.args.rows.items in
    let others = c.args.others.now.items in
    let leaves = c.in_ok-leaves.leaves.items in
    let views : List (Row g.row.C-Ty.Denot) → Type 0 =
    λ rs. leaf_views (numbers_of others) (plain_rows rs) (plain_leaves leaves) ≡ map bare_row (expand_rows [] (row_views (c.args.place.number ∷ numbers_of others) (plain_rows rs))) in
    apart_is (g.C.PatCx.is_type cx) (g.C.PatCx.context cx) c.args.next c.args.place.number (plain_column c.args.place.column) (numbers_of others) (places_of others) (plain_rows rows) (plain_leaves leaves)
    (leaf_ctors (plain_leaves leaves)) c.requires
    (within_plain rows leaves (subst (λ (rs : List (Row g.row.C-Ty.Denot)). All (λ l. l.row < length rs) leaves) c.deref.ensures.value c.in_ok-leaves.ensures.within))
    refl (subst views c.deref.ensures.value (c.in_ok-leaves.ensures.rows [] (numbers_of others)))
