use Rattle.std.proofs.Common.{◌≡◌, IsTrue, true, rules, arith, get_or, subst}
use Rattle.std.specs.List.{All}
use Rattle.std.proofs.lemmas.Grind.{common_steps}
use Rattle.std.proofs.lemmas.List.{take_all}
use Rattle.std.proofs.lemmas.List.Elements.{All-more}
use Rattle.pat_context.specs.Views.{is_sure}
use Rattle.constructor_sets.specs.Numbered.{is_valued}
use Rattle.constructor_sets.proofs.variants.are_valued.Goals as goal

pub loop-k-preserved : goal.loop-k-preserved
loop-k-preserved g c =
    let p = is_valued (g.C.PatCx.variant_empty_of c.args.cx.now c.args.ty) (is_sure c.args.validity) in
    let own : p (get_or c.args.numbers.now c.loop-k.k-index 0) ≡ true = first_of (search rules, grind (arith, common_steps)) in
    All-more (λ k. IsTrue (p k)) c.args.numbers.now c.loop-k.k-index 0 c.loop-k-test.true c.loop-k.invariant own

pub returns : goal.returns
returns g c = λ h.
    let p = is_valued (g.C.PatCx.variant_empty_of c.args.cx.now c.args.ty) (is_sure c.args.validity) in
    subst (All (λ k. IsTrue (p k))) (take_all c.loop-k.k-index c.args.numbers.now c.loop-k-test.false) c.loop-k.invariant
