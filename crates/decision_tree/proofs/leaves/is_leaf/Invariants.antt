use Rattle.std.proofs.Common.{◌≡◌, drop}
use Rattle.std.specs.List.{list_all}
use Rattle.match_model.specs.Rows.{is_wild}
use Rattle.keyed_matrix.specs.Views.{plain_heads}
use Rattle.decision_tree.proofs.leaves.is_leaf.Given as goal

abbrev pub invariant-loop-one : goal.invariant-loop-one
invariant-loop-one g l =
    list_all is_wild (plain_heads (drop l.one-index l.row.heads.items)) ≡ list_all is_wild (plain_heads l.row.heads.items)
