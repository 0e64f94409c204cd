use Rattle.explain_report.specs.Arms.{arms_of_function, arms_view}
use Rattle.explain_report.proofs.ReadLists.{IsReadTo}
use Rattle.explain_report.proofs.arms.all_functions.Given as goal

abbrev pub invariant-loop-item : goal.invariant-loop-item
invariant-loop-item l = IsReadTo arms_view arms_of_function l.items l.item-index l.all.items
