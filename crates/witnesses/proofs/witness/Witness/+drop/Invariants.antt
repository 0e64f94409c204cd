use Rattle.std.proofs.Common.{◌≤◌}
use Rattle.witnesses.specs.declared.witness.Witness.{size-Witness}
use Rattle.witnesses.proofs.witness.Witness.+drop.Given as goal

abbrev pub invariant-loop-self : goal.invariant-loop-self
invariant-loop-self l = size-Witness l.self ≤ size-Witness l.fn.self
