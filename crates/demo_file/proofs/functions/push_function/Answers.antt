use Rattle.demo_file.proofs.ArmLists.{function_added}
use Rattle.demo_file.proofs.functions.push_function.Goals as goal

pub returns : goal.returns
unfolding lib.Utf8.encode
returns c =
    function_added _ _ _ _ _ _ _ c.unit_count-count.ensures c.in_ok-push_head.ensures c.in_ok-push_unit_arms.ensures
    c.in_ok-push_field_arms.ensures c.in_ok-push_str.ensures.bytes
