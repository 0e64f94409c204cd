use Rattle.std.proofs.Common.{◌∙◌, ap, ◌++◌}
use Rattle.std.specs.Prelude.{flat_map}
use Rattle.explain_tree.specs.Labels.{literal_text, literal_byte}
use Rattle.explain_lines.proofs.Adding.{three_added}
use Rattle.explain_tree.proofs.labels.push_text.Goals as goal

pub returns : goal.returns
unfolding literal_text
returns c =
    three_added _ _ _ _ _ _ _ c.in_ok-extend_from_slice.ensures.items
    (c.in_ok-push_literals.ensures ∙ ap (λ b. c.extend_from_slice.new.self.items ++ flat_map literal_byte b) c.as_bytes.ensures.value)
    c.in_ok-extend_from_slice-2.ensures.items
