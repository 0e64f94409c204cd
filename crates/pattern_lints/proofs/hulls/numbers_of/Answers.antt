use Rattle.std.proofs.Common.{◌≡◌, [], sym, ap, subst, ◌∙◌, Some}
use Rattle.match_model.specs.Numbers.{MRange}
use Rattle.pattern_arena.specs.Trees.{tree}
use Rattle.pattern_arena.proofs.TreeFacts.{ctor_of-tree}
use Rattle.pattern_lints.specs.Beside.{own_range, LiesBelow}
use Rattle.pattern_lints.specs.Hulls.{is_kept, noted, or_all}
use Rattle.pattern_lints.proofs.BesideLaws.{own-lies}
use Rattle.pattern_lints.proofs.HullLaws.{known-itself, uid-tree}
use Rattle.pattern_lints.proofs.hulls.numbers_of.Goals as goal

pub returns-then-is_kept : goal.returns-then-is_kept
returns-then-is_kept g c = λ known.
    let p = c.args.p.now in
    let h = c.args.hulls.now in
    let k = known-itself h (tree p) known (ap is_kept (ctor_of-tree p) ∙ sym c.is_kept.ensures ∙ c.if-is_kept.true) in
    let there = subst (λ u. noted h u ≡ Some k.0) (uid-tree p) k.1 in
    subst (λ (r : MRange). LiesBelow (tree p) [] r) (sym (c.noted_numbers.ensures ∙ ap or_all there)) k.2

pub returns-else-is_kept : goal.returns-else-is_kept
returns-else-is_kept g c = λ known.
    let p = c.args.p.now in
    subst (λ (r : MRange). LiesBelow (tree p) [] r) (sym (c.own_numbers.ensures ∙ ap own_range (sym (ctor_of-tree p)))) (own-lies (tree p))
