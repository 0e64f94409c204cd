use Rattle.std.proofs.Common.{arith}
use Rattle.demo_file.proofs.ArmLists.{unit_arm_added, unit_arms_added}
use Rattle.demo_file.proofs.functions.push_unit_arms.Goals as goal

pub loop-variant-preserved : goal.loop-variant-preserved
loop-variant-preserved c =
    unit_arm_added _ _ _ _ _ _ (omega arith) c.in_ok-push_unit_arm.ensures c.loop-variant.invariant

pub returns : goal.returns
returns c = unit_arms_added _ _ _ _ _ (omega arith) c.loop-variant.invariant
