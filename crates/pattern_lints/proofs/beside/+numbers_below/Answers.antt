use Rattle.std.proofs.Common.{◌≡◌, ℕ, List, [], ◌∷◌, length, refl, sym, ap, subst}
use Rattle.pattern_arena.specs.Trees.{tree}
use Rattle.range_split.specs.Ranges.{plain_range}
use Rattle.pattern_lints.specs.Beside.{MatchesPart, LiesBelow}
use Rattle.pattern_lints.specs.Meeting.{plain_head}
use Rattle.pattern_lints.proofs.BesideLaws.{step-below}
use Rattle.pattern_lints.proofs.HullLaws.{known-sub}
use Rattle.pattern_lints.proofs.beside.+numbers_below.Goals as goal

none : (steps : List ℕ) → length steps ≡ 0 → steps ≡ []
none [] h = refl
none (i ∷ steps) h = cc

pub returns-in-None : goal.returns-in-None
returns-in-None g t c = λ known.
    subst (λ steps. LiesBelow (tree c.args.p.now) steps (plain_range c.numbers_of.result)) (sym (none c.args.steps.now c.in-None.ensures.cases)) (c.numbers_of.ensures known)

pub returns-in-Some-part_pattern : goal.returns-in-Some-part_pattern
returns-in-Some-part_pattern g t c = λ known.
    let p = c.args.p.now in
    let q = c.in-Some-part_pattern.sub.now in
    let r = plain_range c.numbers_below.result in
    let part = subst (λ h. MatchesPart (tree p) c.in-Some.i.now (plain_head h)) c.in-Some-part_pattern.is c.part_pattern.ensures.matches in
    subst (λ steps. LiesBelow (tree p) steps r) (sym c.in-Some.ensures.cases.0)
    (step-below (tree p) c.in-Some.i.now c.in-Some.rest.now (tree q) r part
    (c.numbers_below.ensures (known-sub c.args.hulls.now (tree p) (tree q) c.in-Some.i.now c.in-Some-part_pattern.ensures.sub known)))
