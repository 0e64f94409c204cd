use Rattle.explain_report.proofs.ReadLists.{IsReadTo}
use Rattle.explain_tree.specs.Nodes.{node_of, node_view}
use Rattle.explain_tree.proofs.reading.all_nodes.Given as goal

abbrev pub invariant-loop-item : goal.invariant-loop-item
invariant-loop-item l = IsReadTo node_view node_of l.items l.item-index l.all.items
