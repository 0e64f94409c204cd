use Rattle.std.proofs.Common.{◌≡◌, ◌++◌, take, map}
use Rattle.match_model.specs.Matrices.{bind_at}
use Rattle.pat_context.specs.Views.{plain_place}
use Rattle.pattern_arena.specs.Trees.{plain_bound}
use Rattle.tree_eval.specs.Nodes.{plain_bind}
use Rattle.decision_tree.proofs.binds.add_bounds.Given as goal

abbrev pub invariant-loop-bound : goal.invariant-loop-bound
invariant-loop-bound l =
    map plain_bind l.all.items
    ≡ map plain_bind l.initial.all.items ++ map (bind_at (plain_place l.steps)) (map plain_bound (take l.bound-index l.binds))
