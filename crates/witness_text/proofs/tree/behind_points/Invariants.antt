use Rattle.std.proofs.Common.{◌≡◌, ◌≤◌}
use Rattle.witness_text.specs.Trees.{witness_view}
use Rattle.witness_text.specs.Points.{behind_points}
use Rattle.witness_text.specs.declared.named.NamedWitness.{size-NamedWitness}
use Rattle.witness_text.proofs.tree.behind_points.Given as goal

abbrev pub invariant-loop-here : goal.invariant-loop-here
invariant-loop-here l = record {
  behind : behind_points (witness_view l.here) ≡ behind_points (witness_view l.fn.witness);
  size : size-NamedWitness l.here ≤ size-NamedWitness l.fn.witness;
}
