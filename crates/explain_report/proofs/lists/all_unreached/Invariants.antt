use Rattle.explain_report.specs.Reading.{unreached_of}
use Rattle.explain_report.specs.declared.records.Unreached.{Unreached}
use Rattle.explain_report.proofs.ReadLists.{IsReadTo}
use Rattle.explain_report.proofs.lists.all_unreached.Given as goal

abbrev pub invariant-loop-item : goal.invariant-loop-item
invariant-loop-item l = IsReadTo (λ (u : Unreached). u) unreached_of l.items l.item-index l.all.items
