use Rattle.explain_text.specs.Messages.{uncovered_text}
use Rattle.explain_lines.proofs.Adding.{three_added}
use Rattle.explain_text.proofs.messages.push_uncovered.Goals as goal

pub returns : goal.returns
unfolding uncovered_text
returns c =
    three_added _ _ _ _ _ _ _ c.in_ok-push_str.ensures.bytes c.in_ok-push_cases.ensures c.in_ok-push_str-2.ensures.bytes
