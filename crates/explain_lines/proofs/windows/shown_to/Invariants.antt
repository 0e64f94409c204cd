use Rattle.std.proofs.Common.{◌-◌, length}
use Rattle.explain_lines.proofs.Shown.{WalkedOn}
use Rattle.explain_lines.proofs.windows.shown_to.Given as goal

abbrev pub invariant-loop-to : goal.invariant-loop-to
invariant-loop-to l = WalkedOn l.text l.at l.most l.to l.left

abbrev pub decreases-loop-to : goal.decreases-loop-to
decreases-loop-to l = length l.text - l.to
