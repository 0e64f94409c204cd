use Rattle.std.proofs.Common.{arith}
use Rattle.horn_clauses.proofs.propagation.held_until.Goals as goal

pub loop-at-smaller : goal.loop-at-smaller
loop-at-smaller c = omega arith

pub returns-else-marks-body : goal.returns-else-marks-body
returns-else-marks-body c = c.loop-at.invariant

pub returns-after-loop-at : goal.returns-after-loop-at
returns-after-loop-at c = c.loop-at.invariant
