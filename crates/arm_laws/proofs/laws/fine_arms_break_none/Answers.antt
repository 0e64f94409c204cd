use Rattle.arm_laws.proofs.FineFunctions.{fine_arms_break_none}
use Rattle.arm_laws.proofs.laws.fine_arms_break_none.Goals as goal

pub returns : goal.returns
returns c = fine_arms_break_none
