use Rattle.std.proofs.Common.{◌≡◌, ◌++◌, map, take, drop}
use Rattle.keyed_matrix.specs.KeyLists.{put_decision}
use Rattle.keyed_matrix.specs.Deciding.{plain_decision}
use Rattle.keyed_matrix.proofs.keys.put_decision.Given as goal

abbrev pub invariant-loop-i : goal.invariant-loop-i
invariant-loop-i l =
    (l.key.items ≡ l.initial.key.items)
    × (put_decision (plain_decision l.decided) (map plain_decision l.key.items)
    ≡ map plain_decision (take l.i l.key.items)
    ++ put_decision (plain_decision l.decided) (map plain_decision (drop l.i l.key.items)))
