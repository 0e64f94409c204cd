use Rattle.std.proofs.Common.{◌≡◌, drop, map}
use Rattle.std.specs.List.{find}
use Rattle.match_model.specs.Trees.{is_else}
use Rattle.tree_eval.specs.Nodes.{plain_branch}
use Rattle.tree_runs.proofs.cases.next_else.Given as goal

abbrev pub invariant-loop-branch : goal.invariant-loop-branch
invariant-loop-branch l =
    find (λ b. is_else b.case) (map plain_branch (drop l.branch-index l.cases))
    ≡ find (λ b. is_else b.case) (map plain_branch l.cases)
