use Rattle.std.proofs.Common.{◌≡◌}
use Rattle.witnesses.specs.Views.{plain_witness}
use Rattle.witnesses.specs.Points.{put_behind}
use Rattle.witnesses.proofs.witness.put_behind.Given as goal

abbrev pub invariant-loop-here : goal.invariant-loop-here
invariant-loop-here l =
    put_behind (plain_witness l.here) (plain_witness l.all) ≡ put_behind (plain_witness l.fn.w) (plain_witness l.fn.last)
