use Rattle.explain_text.specs.Messages.{two_cases}
use Rattle.explain_lines.proofs.Adding.{three_added}
use Rattle.explain_text.proofs.messages.push_two.Goals as goal

pub returns : goal.returns
unfolding two_cases
returns c =
    three_added _ _ _ _ _ _ _ c.in_ok-push_ticked.ensures c.in_ok-push_str.ensures.bytes c.in_ok-push_ticked-2.ensures
