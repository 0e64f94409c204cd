use Rattle.std.proofs.Common.{List, IsTrue, sym, subst}
use Rattle.std.specs.List.{All}
use Rattle.pat_context.specs.declared.ctor.Ctor.{Ctor}
use Rattle.constructor_sets.specs.Columns.{plain_ctors}
use Rattle.constructor_sets.specs.Present.{is_sharp_head}
use Rattle.pattern_matrix.proofs.found.pieces_of_few.Goals as goal

pub present-requires-clause-heads : goal.present-requires-clause-heads
present-requires-clause-heads g c =
    let set = (g.C.PatCx.context c.args.cx.now).set_of c.args.column.now.ty in
    subst (λ (cs : List Ctor). All (λ h. IsTrue (is_sharp_head set h)) (plain_ctors cs)) (sym c.deref.ensures.value)
    (subst (All (λ h. IsTrue (is_sharp_head set h))) (sym c.in_ok-heads.ensures) c.requires.heads)
