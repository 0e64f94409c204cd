use Rattle.std.proofs.Common.{◌≡◌, true, sym, ◌∙◌, arith}
use Rattle.decl_syntax.specs.Patterns.{pattern_view}
use Rattle.pattern_rules.specs.Nodes.{is_rest}
use Rattle.pattern_elaboration.proofs.parts.part_behind.Goals as goal

pub returns-then-is_rest-clause-is : goal.returns-then-is_rest-clause-is
returns-then-is_rest-clause-is c =
    let e : is_rest (pattern_view c.args.item.now) ≡ true = sym c.is_rest.ensures ∙ c.if-is_rest.true in
    rw e c.saturating_sub.ensures

pub returns-then-is_rest-clause-below : goal.returns-then-is_rest-clause-below
returns-then-is_rest-clause-below c = λ k less most. omega (arith, c.saturating_sub.ensures)
