use Rattle.explain_tree.specs.Labels.{longer_text}
use Rattle.explain_lines.proofs.Adding.{four_added}
use Rattle.explain_tree.proofs.labels.push_longer.Goals as goal

pub returns : goal.returns
unfolding longer_text
returns c =
    four_added _ _ _ _ _ _ _ _ _ c.in_ok-extend_from_slice.ensures.items c.in_ok-push_decimal.ensures c.in_ok-extend_from_slice-2.ensures.items c.in_ok-push_decimal-2.ensures
