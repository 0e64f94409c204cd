use Rattle.explain_tree.specs.Graphs.{edge_statement}
use Rattle.explain_lines.proofs.Adding.{seven_added}
use Rattle.explain_tree.proofs.graph.push_edge.Goals as goal

pub returns : goal.returns
unfolding edge_statement
returns c =
    seven_added _ _ _ _ _ _ _ _ _ _ _ _ _ _ _ c.in_ok-extend_from_slice.ensures.items c.in_ok-push_decimal.ensures c.in_ok-extend_from_slice-2.ensures.items
    c.in_ok-push_decimal-2.ensures c.in_ok-extend_from_slice-3.ensures.items c.in_ok-extend_from_slice-4.ensures.items c.in_ok-extend_from_slice-5.ensures.items
