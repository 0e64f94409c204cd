use Rattle.std.proofs.Common.{◌∙◌, ap, ◌++◌}
use Rattle.explain_tree.specs.Graphs.{switch_statements, node_statement, tree_mark, box_end}
use Rattle.explain_lines.proofs.Adding.{two_added}
use Rattle.explain_tree.proofs.graph.push_switch.Goals as goal

pub returns : goal.returns
unfolding switch_statements
returns c =
    two_added _ _ _ _ _
    (c.in_ok-push_statement.ensures ∙ ap (λ l. c.args.out.now.items ++ node_statement tree_mark c.args.number l box_end) (c.as_slice.ensures.value ∙ c.in_ok-label.ensures))
    c.in_ok-push_branches.ensures
