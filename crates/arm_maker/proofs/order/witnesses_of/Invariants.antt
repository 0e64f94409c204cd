use Rattle.std.proofs.Common.{◌≡◌}
use Rattle.arm_maker.specs.Turns.{plain_loans, turn_witnesses}
use Rattle.arm_maker.proofs.order.witnesses_of.Given as goal

abbrev pub invariant-loop-turn : goal.invariant-loop-turn
invariant-loop-turn l = plain_loans l.witnesses.items ≡ turn_witnesses l.yielded
