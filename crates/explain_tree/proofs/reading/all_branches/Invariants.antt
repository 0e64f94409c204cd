use Rattle.explain_report.proofs.ReadLists.{IsReadTo}
use Rattle.explain_tree.specs.Nodes.{branch_of, branch_view}
use Rattle.explain_tree.proofs.reading.all_branches.Given as goal

abbrev pub invariant-loop-item : goal.invariant-loop-item
invariant-loop-item l = IsReadTo branch_view branch_of l.items l.item-index l.all.items
