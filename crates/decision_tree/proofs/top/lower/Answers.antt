use Rattle.std.proofs.Common.{◌≡◌, ◌∷◌, [], subst, sym}
use Rattle.match_model.specs.MatchTree.{IsMatchTree, nothing_to_lower}
use Rattle.match_model.specs.Trees.{VoidNode}
use Rattle.pattern_arena.specs.Trees.{plain_match}
use Rattle.tree_eval.specs.Nodes.{tree_nodes}
use Rattle.decision_tree.proofs.Empty.{if-ok-to}
use Rattle.decision_tree.proofs.top.lower.Goals as goal

pub returns-else-some : goal.returns-else-some
returns-else-some g c =
    let cx = g.C.PatCx.context c.args.cx.now in
    let V = g.C.PatCx.is_value c.args.cx.now in
    let m = plain_match c.args.m.now in
    if-ok-to (λ t. tree_nodes t ≡ VoidNode ∷ []) (λ t. IsMatchTree cx V m (tree_nodes t)) c.empty_tree.result
    (λ t e. subst (IsMatchTree cx V m) (sym e) (nothing_to_lower (c.has_value-some.ensures.none c.if-some.false)))
    c.empty_tree.ensures
