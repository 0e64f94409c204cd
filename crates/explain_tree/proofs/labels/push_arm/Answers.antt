use Rattle.explain_tree.specs.Labels.{arm_text}
use Rattle.explain_lines.proofs.Adding.{three_added}
use Rattle.explain_tree.proofs.labels.push_arm.Goals as goal

pub returns : goal.returns
unfolding arm_text
returns c =
    three_added _ _ _ _ _ _ _ c.in_ok-extend_from_slice.ensures.items c.in_ok-push_decimal.ensures c.in_ok-push_line.ensures
