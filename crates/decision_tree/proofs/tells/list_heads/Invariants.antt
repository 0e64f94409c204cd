use Rattle.std.proofs.Common.{◌≡◌, take, map}
use Rattle.std.specs.List.{flat_map}
use Rattle.keyed_matrix.specs.Views.{plain_heads}
use Rattle.decision_tree.specs.Known.{head_uid}
use Rattle.decision_tree.specs.KnownViews.{plain_known_heads}
use Rattle.decision_tree.proofs.tells.list_heads.Given as goal

abbrev pub invariant-loop-one : goal.invariant-loop-one
invariant-loop-one g l = flat_map plain_known_heads l.all.items ≡ map head_uid (plain_heads (take l.one-index l.heads))
