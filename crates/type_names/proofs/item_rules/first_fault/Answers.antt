use Rattle.std.proofs.Common.{◌<◌, map, length, sym, ap, ◌∙◌, arith, below_more}
use Rattle.decl_syntax.specs.Items.{item_view}
use Rattle.type_names.specs.Rules.{passes, item_test}
use Rattle.type_names.proofs.FirstLemmas.{get_item, below_map, within_map}
use Rattle.type_names.proofs.item_rules.first_fault.Goals as goal

pub returns-then-branch : goal.returns-then-branch
returns-then-branch c =
    let items = map item_view c.args.items.now in
    let at = get_item item_view c.args.items.now c.loop-i.i c.index-items-i.result c.loop-i-test.true c.index-items-i.is in (
      within_map item_view c.args.items.now c.loop-i.i c.loop-i-test.true,
      ap (passes (item_test c.args.rule items)) at ∙ (sym c.in_ok-breaks.ensures ∙ c.if-branch.true),
      c.loop-i.invariant,
    )

pub loop-i-preserved : goal.loop-i-preserved
loop-i-preserved c =
    let items = map item_view c.args.items.now in
    let at = get_item item_view c.args.items.now c.loop-i.i c.index-items-i.result c.loop-i-test.true c.index-items-i.is in
    below_more _ _ c.loop-i.invariant (ap (passes (item_test c.args.rule items)) at ∙ (sym c.in_ok-breaks.ensures ∙ c.if-branch.false))

pub returns : goal.returns
returns c = λ j lt. let below : j < length c.args.items.now = below_map item_view c.args.items.now j lt in c.loop-i.invariant j (omega arith)
