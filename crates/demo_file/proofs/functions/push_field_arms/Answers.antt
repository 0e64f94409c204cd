use Rattle.demo_file.proofs.ArmLists.{field_arms_added}
use Rattle.demo_file.proofs.functions.push_field_arms.Goals as goal

pub returns : goal.returns
unfolding lib.Utf8.encode
returns c =
    field_arms_added _ _ _ _ _ _ _ _ c.in_ok-push_arm.ensures c.in_ok-push_arm-2.ensures c.in_ok-next.ensures.added
    c.in_ok-next.ensures.next c.in_ok-push_third_arm.ensures
