use Rattle.std.proofs.Common.{◌≡◌, map, take}
use Rattle.keyed_matrix.specs.Views.{plain_heads}
use Rattle.decision_tree.specs.Known.{head_uid}
use Rattle.decision_tree.proofs.repeated.are_same_heads.Given as goal

abbrev pub invariant-loop-i : goal.invariant-loop-i
invariant-loop-i g l = map head_uid (plain_heads (take l.i l.one)) ≡ map head_uid (plain_heads (take l.i l.other))
