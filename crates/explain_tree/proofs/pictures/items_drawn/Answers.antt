use Rattle.std.proofs.Common.{◌∙◌, ap, sym, subst, List, Option, Some, map}
use Rattle.explain_tree.specs.Nodes.{NodeTree, node_view}
use Rattle.explain_tree.specs.Pictures.{Answers, outcome_of_nodes}
use Rattle.explain_tree.specs.declared.nodes.Node.{Node}
use Rattle.explain_tree.proofs.pictures.items_drawn.Goals as goal

pub returns-in-Ok : goal.returns-in-Ok
returns-in-Ok c =
    subst (λ (ns : Option (List NodeTree)). Answers (outcome_of_nodes c.args.file.now c.args.pieces.now c.args.name.now c.args.number ns) c.nodes_drawn.result)
    (ap (λ (ns : List Node). Some (map node_view ns)) c.as_slice.ensures.value ∙ sym c.in-Ok.ensures)
    c.nodes_drawn.ensures
