use Rattle.std.proofs.Common.{◌≡◌, drop, map}
use Rattle.std.specs.List.{find}
use Rattle.match_model.specs.Trees.{case_has}
use Rattle.tree_eval.specs.Nodes.{plain_branch}
use Rattle.tree_runs.specs.Parts.{plain_part}
use Rattle.tree_runs.proofs.cases.next_with.Given as goal

abbrev pub invariant-loop-branch : goal.invariant-loop-branch
invariant-loop-branch l =
    find (λ b. case_has b.case (plain_part l.part)) (map plain_branch (drop l.branch-index l.cases))
    ≡ find (λ b. case_has b.case (plain_part l.part)) (map plain_branch l.cases)
