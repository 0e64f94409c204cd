use Rattle.std.proofs.Common.{◌≡◌, ◌++◌, map, take}
use Rattle.match_model.specs.Rows.{wildcards}
use Rattle.keyed_matrix.specs.Views.{plain_heads}
use Rattle.decision_tree.specs.Thin.{thin_head}
use Rattle.decision_tree.proofs.thin.thin_heads.Given as goal

abbrev pub invariant-loop-one : goal.invariant-loop-one
invariant-loop-one g l = plain_heads l.all.items ++ wildcards l.waiting ≡ map thin_head (plain_heads (take l.one-index l.heads))
