use Rattle.std.proofs.Common.{◌≡◌, ◌++◌, take, drop, map}
use Rattle.match_model.specs.Ways.{put_by}
use Rattle.tree_eval.specs.Nodes.{plain_bind}
use Rattle.decision_tree.proofs.binds.put.Given as goal

abbrev pub invariant-loop-i : goal.invariant-loop-i
invariant-loop-i l =
    (l.all.items ≡ l.initial.all.items)
    × (put_by (λ b. b.name) (plain_bind l.bind) (map plain_bind l.all.items)
    ≡ map plain_bind (take l.i l.all.items)
    ++ put_by (λ b. b.name) (plain_bind l.bind) (map plain_bind (drop l.i l.all.items)))
