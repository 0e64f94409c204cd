use Rattle.std.proofs.Common.{sym, arith}
use Rattle.explain_report.specs.Reading.{witness_of}
use Rattle.std.proofs.Common.{Bor, List, ℕ}
use Rattle.explain_report.proofs.ReadLists.{read_begun, read_more, read_fails, read_ended}
use Rattle.explain_report.proofs.lists.all_witnesses.Goals as goal

pub loop-item-init : goal.loop-item-init
loop-item-init c = read_begun (λ (t : Bor (List ℕ)). t.now) witness_of c.args.items.now c.in_ok-all.all.items c.in_ok-all.ensures.items

pub loop-item-preserved : goal.loop-item-preserved
loop-item-preserved c =
    read_more (λ (t : Bor (List ℕ)). t.now) witness_of c.args.items.now c.loop-item.item-index c.loop-item.all.items _ c.in-Some.witness c.item-item.result (omega arith) c.item-item.is
    (sym c.in-Some.ensures) c.in_ok-push-in-Some.ensures.items c.loop-item.invariant

pub returns-in-None : goal.returns-in-None
returns-in-None c =
    read_fails (λ (t : Bor (List ℕ)). t.now) witness_of c.args.items.now c.loop-item.item-index c.loop-item.all.items c.item-item.result (omega arith) c.item-item.is (sym c.in-None.ensures)
    c.loop-item.invariant

pub returns : goal.returns
returns c = read_ended (λ (t : Bor (List ℕ)). t.now) witness_of c.args.items.now c.loop-item.item-index c.loop-item.all.items (omega arith) c.loop-item.invariant
