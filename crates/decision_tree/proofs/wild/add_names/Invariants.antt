use Rattle.std.proofs.Common.{◌≡◌, ◌++◌, take, map}
use Rattle.match_model.specs.Matrices.{bind_at}
use Rattle.pat_context.specs.Views.{plain_place}
use Rattle.pattern_arena.specs.Trees.{plain_bound}
use Rattle.keyed_matrix.specs.Views.{plain_caught}
use Rattle.decision_tree.proofs.wild.add_names.Given as goal

abbrev pub invariant-loop-bound : goal.invariant-loop-bound
invariant-loop-bound l =
    map plain_caught l.all.items
    ≡ map plain_caught l.initial.all.items ++ map (bind_at (plain_place l.place)) (map plain_bound (take l.bound-index l.binds))
