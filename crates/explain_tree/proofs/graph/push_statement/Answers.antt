use Rattle.explain_tree.specs.Graphs.{node_statement}
use Rattle.explain_lines.proofs.Adding.{five_added}
use Rattle.explain_tree.proofs.graph.push_statement.Goals as goal

pub returns : goal.returns
unfolding node_statement
returns c =
    five_added _ _ _ _ _ _ _ _ _ _ _ c.in_ok-extend_from_slice.ensures.items c.in_ok-push_decimal.ensures c.in_ok-extend_from_slice-2.ensures.items
    c.in_ok-extend_from_slice-3.ensures.items c.in_ok-extend_from_slice-4.ensures.items
