use Rattle.std.proofs.Common.{◌≡◌, drop, map}
use Rattle.std.specs.List.{list_all}
use Rattle.explain_tree.specs.Nodes.{branch_view, is_branch_inside}
use Rattle.explain_tree.proofs.nodes.are_branches_inside.Given as goal

abbrev pub invariant-loop-branch : goal.invariant-loop-branch
invariant-loop-branch l =
    list_all (is_branch_inside l.count) (map branch_view (drop l.branch-index l.branches)) ≡ list_all (is_branch_inside l.count) (map branch_view l.branches)
