use Rattle.explain_text.specs.Notes.{rule_words}
use Rattle.explain_lines.proofs.Adding.{three_added}
use Rattle.explain_text.proofs.notes.push_rule.Goals as goal

pub returns : goal.returns
unfolding rule_words
returns c =
    three_added _ _ _ _ _ _ _ c.in_ok-push_str.ensures.bytes c.in_ok-write.ensures.bytes c.in_ok-push_quoted.ensures
