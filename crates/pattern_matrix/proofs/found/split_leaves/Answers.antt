use Rattle.std.proofs.Common.{List, map, IsTrue, sym, subst}
use Rattle.std.specs.List.{All}
use Rattle.std.proofs.lemmas.List.Elements.{All-weaker}
use Rattle.pat_context.specs.declared.ctor.Ctor.{Ctor}
use Rattle.constructor_sets.specs.Columns.{plain_ctors, plain_piece, is_head, IsColumnSplit}
use Rattle.constructor_sets.specs.Present.{is_sharp_head}
use Rattle.pattern_matrix.specs.Columns.{plain_column}
use Rattle.pattern_matrix.specs.Halving.{leaf_ctors}
use Rattle.pattern_matrix.specs.Views.{plain_leaves}
use Rattle.pattern_matrix.proofs.Members.{all_same}
use Rattle.pattern_matrix.proofs.SameHeads.{sharp_is_head, split_same}
use Rattle.pattern_matrix.proofs.found.split_leaves.Goals as goal

pub split_column-requires-clause-column : goal.split_column-requires-clause-column
split_column-requires-clause-column g c =
    let set = (g.C.PatCx.context c.args.cx.now).set_of c.args.column.now.ty in
    let heads = c.in_ok-heads.heads in
    subst (λ (cs : List Ctor). All (λ h. IsTrue (is_head set h)) (plain_ctors cs)) (sym c.deref.ensures.value)
    (All-weaker (λ h. IsTrue (is_sharp_head set h)) (λ h. IsTrue (is_head set h)) (sharp_is_head set) (plain_ctors heads.ctors.items)
    (all_same (λ h. IsTrue (is_sharp_head set h)) (leaf_ctors (plain_leaves c.args.leaves.now)) (plain_ctors heads.ctors.items) c.in_ok-heads.ensures.same c.requires.heads))

pub returns : goal.returns
returns g c =
    let cx = c.args.cx.now in
    let o = plain_column c.args.column.now in
    let heads = c.in_ok-heads.heads in
    let pieces = map plain_piece c.in_ok-split.split.pieces.items in
    let same = c.in_ok-heads.ensures.same in
    split_same (plain_ctors heads.ctors.items) (leaf_ctors (plain_leaves c.args.leaves.now)) (record { forth = same.back; back = same.forth }) (g.C.PatCx.is_value cx) (g.C.PatCx.context cx) o pieces
    (subst (λ (cs : List Ctor). IsColumnSplit (g.C.PatCx.is_value cx) (g.C.PatCx.context cx) o (plain_ctors cs) pieces) c.deref.ensures.value c.in_ok-split.ensures)
