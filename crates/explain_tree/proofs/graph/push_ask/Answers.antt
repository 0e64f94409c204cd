use Rattle.std.proofs.Common.{◌∙◌, ap, ◌++◌}
use Rattle.explain_tree.specs.Graphs.{ask_statements, node_statement, tree_mark, taken_mark, guard_end, leaf_end}
use Rattle.explain_lines.proofs.Adding.{four_added}
use Rattle.explain_tree.proofs.graph.push_ask.Goals as goal

pub returns : goal.returns
unfolding ask_statements
returns c =
    four_added _ _ _ _ _ _ _ _ _
    (c.in_ok-push_statement.ensures ∙ ap (λ l. c.args.out.now.items ++ node_statement tree_mark c.args.number l guard_end) (c.as_slice.ensures.value ∙ c.in_ok-guard.ensures))
    c.in_ok-push_edge.ensures
    (c.in_ok-push_statement-2.ensures ∙ ap (λ l. c.push_edge.new.out.items ++ node_statement taken_mark c.args.number l leaf_end) (c.as_slice-2.ensures.value ∙ c.in_ok-taken.ensures))
    c.in_ok-push_edge-2.ensures
