use Rattle.std.proofs.Common.{rules, sym, ap, subst, ◌∙◌, ◌∷◌}
use Rattle.pattern_arena.specs.Trees.{tree}
use Rattle.pattern_arena.proofs.TreeFacts.{ctor_of-tree}
use Rattle.range_split.specs.Ranges.{plain_range}
use Rattle.pattern_lints.specs.Beside.{stands_first, LiesBeside}
use Rattle.pattern_lints.specs.Meeting.{plain_head}
use Rattle.pattern_lints.proofs.BesideLaws.{here-beside}
use Rattle.pattern_lints.proofs.HullLaws.{known-sub}
use Rattle.pattern_lints.proofs.beside.numbers_at_step.Goals as goal

pub returns-in-Some-nth : goal.returns-in-Some-nth
returns-in-Some-nth g c = λ known.
    let p = c.args.p.now in
    let r = plain_range c.numbers_below.result in
    let there = sym c.nth.ensures ∙ ap plain_head c.in-Some-nth.is in
    subst (λ steps. LiesBeside (tree p) (c.args.i ∷ c.args.rest.now) 0 steps r) (sym c.in-Some.ensures.cases.0)
    (here-beside (tree p) c.args.i c.args.rest.now c.in-Some.j.now c.in-Some.behind.now (tree c.in-Some-nth.sub.now) r (ap (λ x. stands_first x c.in-Some.j.now) (ctor_of-tree p) ∙ sym c.stands_first.ensures ∙ c.if-not-stands_first.false)
    (search rules) there
    (c.numbers_below.ensures (known-sub c.args.hulls.now (tree p) (tree c.in-Some-nth.sub.now) c.in-Some.j.now there known)))
