use Rattle.std.proofs.Common.{arith}
use Rattle.explain_report.specs.Reading.{function_of}
use Rattle.explain_report.specs.Records.{function_view}
use Rattle.explain_report.proofs.ReadLists.{read_begun, read_more, read_fails, read_ended}
use Rattle.explain_report.proofs.report.all_functions.Goals as goal

pub loop-item-init : goal.loop-item-init
loop-item-init c = read_begun function_view function_of c.args.items.now c.in_ok-all.all.items c.in_ok-all.ensures.items

pub loop-item-preserved : goal.loop-item-preserved
loop-item-preserved c =
    read_more function_view function_of c.args.items.now c.loop-item.item-index c.loop-item.all.items _ c.in_ok-function.function c.item-item.result (omega arith) c.item-item.is
    c.in_ok-function.ensures c.in_ok-push.ensures.items c.loop-item.invariant

pub returns : goal.returns
returns c = read_ended function_view function_of c.args.items.now c.loop-item.item-index c.loop-item.all.items (omega arith) c.loop-item.invariant
