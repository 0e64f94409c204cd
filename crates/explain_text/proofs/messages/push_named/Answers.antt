use Rattle.explain_text.specs.Messages.{named_text}
use Rattle.explain_lines.proofs.Adding.{three_added}
use Rattle.explain_text.proofs.messages.push_named.Goals as goal

pub returns : goal.returns
unfolding named_text
returns c =
    three_added _ _ _ _ _ _ _ c.in_ok-push_str.ensures.bytes c.in_ok-push_ticked.ensures c.in_ok-push_str-2.ensures.bytes
