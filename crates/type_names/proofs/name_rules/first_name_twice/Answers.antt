use Rattle.std.proofs.Common.{◌<◌, map, take, length, ◌∙◌, arith, below_more}
use Rattle.decl_syntax.specs.Items.{item_view}
use Rattle.type_names.specs.NameRules.{all_names, taken_names, function_names, value_names}
use Rattle.type_names.proofs.FirstLemmas.{get_item, taken_at, taken_after, below_map, within_map}
use Rattle.type_names.proofs.name_rules.first_name_twice.Goals as goal

pub returns-then-branch : goal.returns-then-branch
returns-then-branch c =
    let items = map item_view c.args.items.now in
    let before = take c.loop-i.i items in
    let at = get_item item_view c.args.items.now c.loop-i.i c.index-items-i.result c.loop-i-test.true c.index-items-i.is in
    let step = c.in_ok-take.ensures (all_names taken_names before) (all_names function_names before) (all_names (value_names items) before) c.loop-i.invariant.0 in (
      within_map item_view c.args.items.now c.loop-i.i c.loop-i-test.true,
      taken_at items c.loop-i.i (item_view c.index-items-i.result) c.in_ok-take.field-0 at step.0 ∙ c.if-branch.true,
      c.loop-i.invariant.1,
    )

pub loop-i-preserved : goal.loop-i-preserved
loop-i-preserved c =
    let items = map item_view c.args.items.now in
    let before = take c.loop-i.i items in
    let at = get_item item_view c.args.items.now c.loop-i.i c.index-items-i.result c.loop-i-test.true c.index-items-i.is in
    let step = c.in_ok-take.ensures (all_names taken_names before) (all_names function_names before) (all_names (value_names items) before) c.loop-i.invariant.0 in (
      taken_after items c.loop-i.i (item_view c.index-items-i.result) c.take.new.self at (step.1 c.if-branch.false),
      below_more _ _ c.loop-i.invariant.1 (taken_at items c.loop-i.i (item_view c.index-items-i.result) c.in_ok-take.field-0 at step.0 ∙ c.if-branch.false),
    )

pub returns : goal.returns
returns c = λ j lt. let below : j < length c.args.items.now = below_map item_view c.args.items.now j lt in c.loop-i.invariant.1 j (omega arith)
