use Rattle.std.proofs.Common.{◌≡◌, ◌++◌, drop, map}
use Rattle.std.specs.Prelude.{flat_map}
use Rattle.explain_tree.specs.Nodes.{branch_view}
use Rattle.explain_tree.specs.Graphs.{branch_edge}
use Rattle.explain_tree.proofs.graph.push_branches.Given as goal

abbrev pub invariant-loop-branch : goal.invariant-loop-branch
invariant-loop-branch l =
    l.out.items ++ flat_map (branch_edge l.number) (map branch_view (drop l.branch-index l.branches))
    ≡ l.initial.out.items ++ flat_map (branch_edge l.number) (map branch_view l.branches)
