use Rattle.std.proofs.Common.{◌≡◌, ◌++◌, drop}
use Rattle.explain_tree.specs.Places.{lines_within}
use Rattle.explain_tree.proofs.lines.lines_within.Given as goal

abbrev pub invariant-loop-at : goal.invariant-loop-at
invariant-loop-at l = l.lines.items ++ lines_within l.file l.from l.to (drop l.at-index l.places) ≡ lines_within l.file l.from l.to l.places
