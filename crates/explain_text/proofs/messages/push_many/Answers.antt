use Rattle.explain_text.specs.Messages.{many_cases}
use Rattle.explain_lines.proofs.Adding.{six_added}
use Rattle.explain_text.proofs.messages.push_many.Goals as goal

pub returns : goal.returns
unfolding many_cases
returns c =
    six_added _ _ _ _ _ _ _ _ _ _ _ _ _ c.in_ok-push_ticked.ensures c.in_ok-push_str.ensures.bytes c.in_ok-push_ticked-2.ensures c.in_ok-push_str-2.ensures.bytes c.in_ok-push_ticked-3.ensures
    c.in_ok-push_others.ensures
