use Rattle.std.proofs.Common.{◌≡◌, ◌≤◌}
use Rattle.witnesses.specs.Views.{plain_witness}
use Rattle.witnesses.specs.Points.{behind_points}
use Rattle.witnesses.specs.declared.witness.Witness.{size-Witness}
use Rattle.witnesses.proofs.witness.behind_points.Given as goal

abbrev pub invariant-loop-here : goal.invariant-loop-here
invariant-loop-here l = record {
  behind : behind_points (plain_witness l.here) ≡ behind_points (plain_witness l.fn.w);
  size : size-Witness l.here ≤ size-Witness l.fn.w;
}
