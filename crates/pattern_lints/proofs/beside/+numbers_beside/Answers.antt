use Rattle.std.proofs.Common.{◌≡◌, sym, ap, subst, ◌∙◌, suc, ◌-◌, ◌∷◌, arith}
use Rattle.match_model.specs.Constructors.{OrCtor}
use Rattle.pat_context.specs.Parts.{Tells}
use Rattle.pattern_arena.specs.Trees.{tree, placed_ctor}
use Rattle.pattern_arena.proofs.TreeFacts.{ctor_of-tree}
use Rattle.range_split.specs.Ranges.{plain_range}
use Rattle.pattern_lints.specs.Beside.{LiesBeside}
use Rattle.pattern_lints.specs.Meeting.{plain_head}
use Rattle.pattern_lints.proofs.BesideLaws.{or-beside, part-beside}
use Rattle.pattern_lints.proofs.HullLaws.{known-sub}
use Rattle.pattern_lints.proofs.beside.+numbers_beside.Goals as goal

pub returns-then-depth-gt0 : goal.returns-then-depth-gt0
returns-then-depth-gt0 g t c = λ known.
    let p = c.args.p.now in
    let r = plain_range c.numbers_beside-then-depth-gt0.result in
    let there = sym c.nth.ensures ∙ ap plain_head c.in-Some-nth.is in
    let back : suc (c.args.depth - 1) ≡ c.args.depth = omega (arith, c.if-depth-gt0.true) in
    let apart = subst (λ b. Tells b (placed_ctor p ≡ OrCtor)) c.if-is_or.false c.is_or.ensures in
    subst (λ path. LiesBeside (tree p) path c.args.depth c.args.steps.now r) (sym c.in-Some.ensures.cases.0)
    (subst (λ d. LiesBeside (tree p) (c.in-Some.i.now ∷ c.in-Some.rest.now) d c.args.steps.now r) back
    (part-beside (tree p) c.in-Some.i.now c.in-Some.rest.now (tree c.in-Some-nth.sub.now) (c.args.depth - 1) c.args.steps.now r (λ e. apart (sym (ctor_of-tree p) ∙ e)) there
    (c.numbers_beside-then-depth-gt0.ensures (known-sub c.args.hulls.now (tree p) (tree c.in-Some-nth.sub.now) c.in-Some.i.now there known))))

pub returns-else-depth-gt0 : goal.returns-else-depth-gt0
returns-else-depth-gt0 g t c = λ known.
    let p = c.args.p.now in
    let r = plain_range c.numbers_at_step.result in
    let none : 0 ≡ c.args.depth = omega (arith, c.if-depth-gt0.false) in
    subst (λ path. LiesBeside (tree p) path c.args.depth c.args.steps.now r) (sym c.in-Some.ensures.cases.0)
    (subst (λ d. LiesBeside (tree p) (c.in-Some.i.now ∷ c.in-Some.rest.now) d c.args.steps.now r) none (c.numbers_at_step.ensures known))

pub returns-then-is_or : goal.returns-then-is_or
returns-then-is_or g t c = λ known.
    let p = c.args.p.now in
    let q = tree c.in-Some-nth.sub.now in
    let r = plain_range c.numbers_beside.result in
    let there = sym c.nth.ensures ∙ ap plain_head c.in-Some-nth.is in
    let or = subst (λ b. Tells b (placed_ctor p ≡ OrCtor)) c.if-is_or.true c.is_or.ensures in
    subst (λ path. LiesBeside (tree p) path c.args.depth c.args.steps.now r) (sym c.in-Some.ensures.cases.0)
    (or-beside (tree p) c.in-Some.i.now c.in-Some.rest.now q c.args.depth c.args.steps.now r (ctor_of-tree p ∙ or) there
    (c.numbers_beside.ensures (known-sub c.args.hulls.now (tree p) q c.in-Some.i.now there known)))
