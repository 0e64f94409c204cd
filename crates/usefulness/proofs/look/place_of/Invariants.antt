use Rattle.std.proofs.Common.{drop}
use Rattle.std.specs.List.{Contains}
use Rattle.usefulness.specs.Frames.{numbers}
use Rattle.usefulness.specs.States.{plain_opens}
use Rattle.usefulness.proofs.look.place_of.Given as goal

abbrev pub invariant-loop-i : goal.invariant-loop-i
invariant-loop-i g l = Contains (numbers (plain_opens (drop l.i l.columns))) l.number
