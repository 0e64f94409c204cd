use Rattle.explain_lines.proofs.Shown.{WalkedBack}
use Rattle.explain_lines.proofs.windows.shown_from.Given as goal

abbrev pub invariant-loop-from : goal.invariant-loop-from
invariant-loop-from l = WalkedBack l.text l.at l.most l.from l.left

abbrev pub decreases-loop-from : goal.decreases-loop-from
decreases-loop-from l = l.from
