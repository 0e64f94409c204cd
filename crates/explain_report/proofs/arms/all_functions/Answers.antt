use Rattle.std.proofs.Common.{arith}
use Rattle.explain_report.specs.Arms.{arms_of_function, arms_view}
use Rattle.explain_report.proofs.ReadLists.{read_begun, read_more, read_ended}
use Rattle.explain_report.proofs.arms.all_functions.Goals as goal

pub loop-item-init : goal.loop-item-init
loop-item-init c = read_begun arms_view arms_of_function c.args.items.now c.in_ok-all.all.items c.in_ok-all.ensures.items

pub loop-item-preserved : goal.loop-item-preserved
loop-item-preserved c =
    read_more arms_view arms_of_function c.args.items.now c.loop-item.item-index c.loop-item.all.items _ c.in_ok-arms.arms c.item-item.result (omega arith) c.item-item.is
    c.in_ok-arms.ensures c.in_ok-push.ensures.items c.loop-item.invariant

pub returns : goal.returns
returns c = read_ended arms_view arms_of_function c.args.items.now c.loop-item.item-index c.loop-item.all.items (omega arith) c.loop-item.invariant
