use Rattle.std.proofs.Common.{◌≡◌, map, drop}
use Rattle.tree_eval.specs.Nodes.{plain_branch}
use Rattle.witness_names.specs.NamedTrees.{has_variant}
use Rattle.witness_names.proofs.trees.has_variant.Given as goal

abbrev pub invariant-loop-case : goal.invariant-loop-case
invariant-loop-case l =
    has_variant (map plain_branch (drop l.case-index l.cases)) ≡ has_variant (map plain_branch l.cases)
