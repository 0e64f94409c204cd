use Rattle.std.proofs.Common.{◌≤◌}
use Rattle.witness_text.specs.declared.named.NamedWitness.{size-NamedWitness}
use Rattle.witness_text.proofs.+named.Given as goal

abbrev pub invariant-named::NamedWitness::drop-loop-self : goal.invariant-named::NamedWitness::drop-loop-self
invariant-named::NamedWitness::drop-loop-self l = size-NamedWitness l.self ≤ size-NamedWitness l.fn.self
