use Rattle.std.proofs.Common.{◌≡◌, ◌++◌, map, drop, false, string_bytes}
use Rattle.serde_json.specs.View.{items_of}
use Rattle.serde_json.specs.Written.{items_text}
use Rattle.tree_text.specs.Trees.{branch_view}
use Rattle.tree_text.specs.Reported.{branch_data}
use Rattle.tree_text.proofs.node.push_branches.Given as goal

abbrev pub invariant-loop-branch : goal.invariant-loop-branch
invariant-loop-branch l =
    string_bytes l.text ++ items_text l.later (items_of (map branch_data (map branch_view (drop l.branch-index l.cases))))
    ≡ string_bytes l.initial.text ++ items_text false (items_of (map branch_data (map branch_view l.cases)))
