use Rattle.explain_text.specs.Messages.{three_cases}
use Rattle.explain_lines.proofs.Adding.{three_added}
use Rattle.explain_text.proofs.messages.push_three.Goals as goal

pub returns : goal.returns
unfolding three_cases
returns c =
    three_added _ _ _ _ _ _ _ c.in_ok-push_ticked.ensures c.in_ok-push_str.ensures.bytes c.in_ok-push_two.ensures
