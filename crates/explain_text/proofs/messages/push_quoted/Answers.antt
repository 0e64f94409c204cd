use Rattle.explain_text.specs.Messages.{quoted_text}
use Rattle.explain_lines.proofs.Adding.{three_added}
use Rattle.explain_text.proofs.messages.push_quoted.Goals as goal

pub returns : goal.returns
unfolding quoted_text
returns c =
    three_added _ _ _ _ _ _ _ c.in_ok-push_str.ensures.bytes c.in_ok-push_str-2.ensures.bytes c.in_ok-push_str-3.ensures.bytes
