use Rattle.std.proofs.Common.{◌≡◌, map, take, drop}
use Rattle.tree_sharing.specs.Table.{renumbered_branch}
use Rattle.tree_eval.specs.Nodes.{plain_branch}
use Rattle.tree_eval.proofs.numbers.cases_from_last.Given as goal

abbrev pub invariant-loop-case : goal.invariant-loop-case
invariant-loop-case l =
    record {
      made : map plain_branch (take l.case-index l.case-items) ≡ map (renumbered_branch l.count) (map plain_branch (take l.case-index l.fn.cases.items));
      left : drop l.case-index l.case-items ≡ drop l.case-index l.fn.cases.items;
    }
