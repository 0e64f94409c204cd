use Rattle.std.proofs.Common.{sym, arith}
use Rattle.explain_report.proofs.ReadLists.{read_begun, read_more, read_fails, read_ended}
use Rattle.explain_tree.specs.Nodes.{branch_of, branch_view}
use Rattle.explain_tree.proofs.reading.all_branches.Goals as goal

pub loop-item-init : goal.loop-item-init
loop-item-init c = read_begun branch_view branch_of c.args.items.now c.in_ok-all.all.items c.in_ok-all.ensures.items

pub loop-item-preserved : goal.loop-item-preserved
loop-item-preserved c =
    read_more branch_view branch_of c.args.items.now c.loop-item.item-index c.loop-item.all.items _ c.in-Some.branch c.item-item.result (omega arith) c.item-item.is
    (sym c.in-Some.ensures) c.in_ok-push-in-Some.ensures.items c.loop-item.invariant

pub returns-in-None : goal.returns-in-None
returns-in-None c =
    read_fails branch_view branch_of c.args.items.now c.loop-item.item-index c.loop-item.all.items c.item-item.result (omega arith) c.item-item.is (sym c.in-None.ensures)
    c.loop-item.invariant

pub returns : goal.returns
returns c = read_ended branch_view branch_of c.args.items.now c.loop-item.item-index c.loop-item.all.items (omega arith) c.loop-item.invariant
