use Rattle.explain_report.specs.Reading.{function_of}
use Rattle.explain_report.specs.Records.{function_view}
use Rattle.explain_report.proofs.ReadLists.{IsReadTo}
use Rattle.explain_report.proofs.report.all_functions.Given as goal

abbrev pub invariant-loop-item : goal.invariant-loop-item
invariant-loop-item l = IsReadTo function_view function_of l.items l.item-index l.all.items
