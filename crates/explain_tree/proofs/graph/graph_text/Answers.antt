use Rattle.std.proofs.Common.{◌∙◌, ap, ◌++◌, map, codes}
use Rattle.explain_tree.specs.Nodes.{node_view}
use Rattle.explain_tree.specs.Labels.{plain_text}
use Rattle.explain_tree.specs.Graphs.{graph_text, tree_statements}
use Rattle.explain_lines.proofs.Adding.{four_added}
use Rattle.explain_tree.proofs.graph.graph_text.Goals as goal

pub returns : goal.returns
unfolding graph_text
returns c =
    four_added _ _ _ _ _ _ _ _ _
    (c.in_ok-extend_from_slice.ensures.items ∙ ap (λ t. c.in_ok-out.out.items ++ t) (c.as_slice.ensures.value ∙ c.in_ok-title.ensures))
    c.in_ok-extend_from_slice-2.ensures.items c.in_ok-push_nodes.ensures c.in_ok-extend_from_slice-3.ensures.items
    ∙ ap (λ h. h ++ (plain_text c.args.name.now ++ (codes "\";\n  node [shape=box];\n"
    ++ (tree_statements c.args.lines.now 0 (map node_view c.args.nodes.now) ++ codes "}\n")))) c.in_ok-out.ensures.items
