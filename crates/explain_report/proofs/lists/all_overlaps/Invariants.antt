use Rattle.explain_report.specs.Reading.{overlap_of}
use Rattle.explain_report.specs.Records.{overlap_view}
use Rattle.explain_report.proofs.ReadLists.{IsReadTo}
use Rattle.explain_report.proofs.lists.all_overlaps.Given as goal

abbrev pub invariant-loop-item : goal.invariant-loop-item
invariant-loop-item l = IsReadTo overlap_view overlap_of l.items l.item-index l.all.items
