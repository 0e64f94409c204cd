use Rattle.std.proofs.Common.{◌≡◌, ℕ, vec_len}
use Rattle.witness_text.specs.Trees.{witness_view}
use Rattle.witness_names.specs.Points.{put_behind}
use Rattle.witness_names.proofs.naming.put_behind.Given as goal

abbrev pub invariant-loop-mutable : goal.invariant-loop-mutable
invariant-loop-mutable l =
    put_behind l.kinds.items (witness_view l.all) ≡ put_behind l.fn.kinds.items (witness_view l.fn.last)

abbrev pub decreases-loop-mutable : goal.decreases-loop-mutable
decreases-loop-mutable l = vec_len l.kinds
