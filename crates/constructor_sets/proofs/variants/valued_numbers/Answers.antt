use Rattle.std.proofs.Common.{IsTrue, subst}
use Rattle.std.specs.List.{All}
use Rattle.pat_context.specs.Views.{is_sure}
use Rattle.constructor_sets.specs.Numbered.{is_valued}
use Rattle.constructor_sets.proofs.Tables.{all_kept}
use Rattle.constructor_sets.proofs.variants.valued_numbers.Goals as goal

pub returns-then-are_valued : goal.returns-then-are_valued
returns-then-are_valued g c =
    let p = is_valued (g.C.PatCx.variant_empty_of c.args.cx.now c.args.ty) (is_sure c.args.validity) in
    all_kept p c.args.numbers.items (subst (All (λ k. IsTrue (p k))) c.deref.ensures.value (c.are_valued.ensures c.if-are_valued.true))
