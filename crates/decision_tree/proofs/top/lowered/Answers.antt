use Rattle.std.proofs.Common.{subst}
use Rattle.match_model.specs.FewestBranches.{IsFewest}
use Rattle.match_model.specs.Lowering.{Lowers}
use Rattle.match_model.specs.MatchTree.{lowered}
use Rattle.match_model.specs.Matrices.{first_matrix}
use Rattle.pattern_arena.specs.Trees.{plain_match}
use Rattle.tree_eval.specs.Nodes.{tree_nodes}
use Rattle.decision_tree.specs.Waiting.{IsBare}
use Rattle.decision_tree.proofs.top.lowered.Goals as goal

pub returns : goal.returns
returns g c =
    let cx = g.C.PatCx.context c.args.cx.now in
    let V = g.C.PatCx.is_value c.args.cx.now in
    let m = plain_match c.args.m.now in
    let made = c.in_ok-lower_match.ensures in
    lowered c.requires.value.0 made.0 (tree_nodes c.in_ok-tree.tree) c.requires.value.1
    (subst (λ d. Lowers cx V d (IsFewest cx V) (IsBare V m) (first_matrix m).columns (first_matrix m).rows made.0)
    (λ i uid. c.in_ok-decisions.ensures uid i) made.1) (c.in_ok-tree.ensures made.0 made.2.walk)
