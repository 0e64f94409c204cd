use Rattle.std.proofs.Common.{◌≡◌, true, slice_get, ap, sym, subst, ◌∙◌, arith}
use Rattle.pattern_matrix.specs.Sparse.{SparseLeaf}
use Rattle.pattern_matrix.specs.Views.{plain_leaf}
use Rattle.usefulness.specs.States.{plain_asked, apart_rows, is_noted, scope_of}
use Rattle.usefulness.specs.Cutting.{is_over_at}
use Rattle.usefulness.proofs.Reading.{got_at, leaf_within}
use Rattle.usefulness.proofs.Trims.{got_same}
use Rattle.usefulness.proofs.cutting.is_over_leaf.Goals as goal

pub index-requires : goal.index-requires
index-requires g c =
    let a = c.args.a.now in
    let of_row = leaf_within (scope_of c.args.reached.now) a c.requires.apart c.args.number c.index-leaf.result.now c.requires.within c.index-leaf.ensures in
    omega (arith, of_row, a.rows.ok.0)

pub returns : goal.returns
returns g c = λ e l x got row.
    let a = c.args.a.now in
    let leaf = c.index-leaf.result.now in
    let asked = c.index.result.now in
    let of_row = leaf_within (scope_of c.args.reached.now) a c.requires.apart c.args.number leaf c.requires.within c.index-leaf.ensures in
    let same = got_same (plain_leaf leaf) l (sym (got_at plain_leaf a.leaves.items c.args.number leaf c.requires.within c.index-leaf.ensures) ∙ got) in
    let rows = got_same (plain_asked asked) x (sym (got_at plain_asked a.rows.items leaf.row asked of_row c.index.ensures) ∙ ap (λ (h : SparseLeaf g.row.T.Denot). slice_get (apart_rows a) h.row) same ∙ row) in
    subst (λ z. is_over_at (is_noted c.args.reached.now) c.args.missing c.args.a.now.taken.number z l ≡ true) rows
    (subst (λ z. is_over_at (is_noted c.args.reached.now) c.args.missing c.args.a.now.taken.number (plain_asked asked) z ≡ true) same (sym c.is_over.ensures ∙ e))
