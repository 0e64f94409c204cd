use Rattle.std.proofs.Common.{◌≡◌}
use Rattle.explain_lines.specs.Lines.{spot_at}
use Rattle.explain_lines.proofs.spots.advance.Given as goal

abbrev pub invariant-loop-i : goal.invariant-loop-i
invariant-loop-i l = l.spot ≡ spot_at l.text l.i
