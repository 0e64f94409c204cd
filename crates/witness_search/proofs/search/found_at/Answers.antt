use Rattle.std.proofs.Common.{IsTrue, List, subst, sym}
use Rattle.std.specs.List.{All}
use Rattle.constructor_sets.specs.Present.{is_sharp_head}
use Rattle.pattern_matrix.specs.Halving.{leaf_ctors}
use Rattle.pattern_matrix.specs.Views.{plain_leaves}
use Rattle.pattern_matrix.specs.declared.rows.Leaf.{Leaf}
use Rattle.witness_search.proofs.search.found_at.Goals as goal

pub leaf_pieces-requires-clause-heads : goal.leaf_pieces-requires-clause-heads
leaf_pieces-requires-clause-heads g c =
    let cx = c.args.cx.now in
    let e = c.args.e.now in
    subst (λ (ls : List (Leaf g.row.C-Ty.Denot)). All (λ h. IsTrue (is_sharp_head ((g.C.PatCx.context cx).set_of e.place.column.ty) h)) (leaf_ctors (plain_leaves ls)))
    (sym c.deref.ensures.value) c.requires.heads
