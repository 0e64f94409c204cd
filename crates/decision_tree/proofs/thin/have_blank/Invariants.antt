use Rattle.std.proofs.Common.{◌≡◌, drop}
use Rattle.std.specs.List.{list_any}
use Rattle.keyed_matrix.specs.Views.{plain_heads}
use Rattle.decision_tree.specs.Thin.{is_blank_head}
use Rattle.decision_tree.proofs.thin.have_blank.Given as goal

abbrev pub invariant-loop-one : goal.invariant-loop-one
invariant-loop-one g l =
    list_any is_blank_head (plain_heads (drop l.one-index l.heads)) ≡ list_any is_blank_head (plain_heads l.heads)
