use Rattle.std.proofs.Common.{◌∙◌, ap, ◌++◌}
use Rattle.explain_tree.specs.Labels.{ends_text, plain_text}
use Rattle.explain_lines.proofs.Adding.{three_added}
use Rattle.explain_tree.proofs.labels.push_ends.Goals as goal

pub returns : goal.returns
unfolding ends_text
returns c =
    three_added _ _ _ _ _ _ _ (c.in_ok-push_plain.ensures ∙ ap (λ b. c.args.out.now.items ++ plain_text b) c.as_bytes.ensures.value)
    c.in_ok-extend_from_slice.ensures.items
    (c.in_ok-push_plain-2.ensures ∙ ap (λ b. c.extend_from_slice.new.self.items ++ plain_text b) c.as_bytes-2.ensures.value)
