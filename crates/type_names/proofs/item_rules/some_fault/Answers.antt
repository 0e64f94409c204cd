use Rattle.std.proofs.Common.{map, sym, ◌∙◌, arith}
use Rattle.decl_syntax.specs.Items.{item_view}
use Rattle.type_names.specs.SomeRule.{breaks_some}
use Rattle.type_names.proofs.ItemTests.{any_found, any_more, any_none}
use Rattle.type_names.proofs.SomeRuleLemmas.{none_first}
use Rattle.type_names.proofs.item_rules.some_fault.Goals as goal

pub returns-then-branch-clause-some : goal.returns-then-branch-clause-some
returns-then-branch-clause-some c =
    any_found item_view (breaks_some (map item_view c.args.items.now)) c.args.items.now c.loop-item.item-index c.item-item.result c.loop-item-test.true c.item-item.is
    (sym c.in_ok-breaks_some.ensures ∙ c.if-branch.true)

pub loop-item-preserved : goal.loop-item-preserved
loop-item-preserved c =
    any_more item_view (breaks_some (map item_view c.args.items.now)) c.args.items.now c.loop-item.item-index c.item-item.result c.loop-item-test.true c.item-item.is
    c.loop-item.invariant (sym c.in_ok-breaks_some.ensures ∙ c.if-branch.false)

pub returns-clause-some : goal.returns-clause-some
returns-clause-some c = any_none item_view _ c.args.items.now c.loop-item.item-index (omega arith) c.loop-item.invariant

pub returns-clause-none : goal.returns-clause-none
returns-clause-none c = λ e rule. none_first (map item_view c.args.items.now) (sym (returns-clause-some c)) rule
