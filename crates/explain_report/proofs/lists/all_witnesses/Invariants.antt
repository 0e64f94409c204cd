use Rattle.explain_report.specs.Reading.{witness_of}
use Rattle.std.proofs.Common.{Bor, List, ℕ}
use Rattle.explain_report.proofs.ReadLists.{IsReadTo}
use Rattle.explain_report.proofs.lists.all_witnesses.Given as goal

abbrev pub invariant-loop-item : goal.invariant-loop-item
invariant-loop-item l = IsReadTo (λ (t : Bor (List ℕ)). t.now) witness_of l.items l.item-index l.all.items
