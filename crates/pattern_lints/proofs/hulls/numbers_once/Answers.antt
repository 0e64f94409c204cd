use Rattle.std.proofs.Common.{◌≡◌, [], sym, ap, subst, ◌∙◌}
use Rattle.match_model.specs.Constructors.{OrCtor}
use Rattle.match_model.specs.Numbers.{MRange}
use Rattle.pat_context.specs.Parts.{Tells}
use Rattle.pattern_arena.specs.Trees.{tree, placed_ctor}
use Rattle.pattern_arena.proofs.TreeFacts.{ctor_of-tree}
use Rattle.pattern_lints.specs.Beside.{own_range, LiesBelow}
use Rattle.pattern_lints.proofs.BesideLaws.{own-lies}
use Rattle.pattern_lints.proofs.hulls.numbers_once.Goals as goal

pub alternative_numbers-requires-clause-or : goal.alternative_numbers-requires-clause-or
alternative_numbers-requires-clause-or g c = subst (λ b. Tells b (placed_ctor c.args.p.now ≡ OrCtor)) c.if-is_or.true c.is_or.ensures

pub returns-else-is_or : goal.returns-else-is_or
returns-else-is_or g c =
    let p = c.args.p.now in
    subst (λ (r : MRange). LiesBelow (tree p) [] r) (sym (c.own_numbers.ensures ∙ ap own_range (sym (ctor_of-tree p)))) (own-lies (tree p))
