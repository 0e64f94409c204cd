use Rattle.std.proofs.Common.{◌∙◌, ap, ◌++◌, ◌∷◌, []}
use Rattle.explain_tree.specs.Labels.{numbered_text, hex_digit}
use Rattle.explain_lines.proofs.Adding.{three_added}
use Rattle.explain_tree.proofs.labels.push_numbered.Goals as goal

pub returns : goal.returns
unfolding numbered_text
returns c =
    three_added _ _ _ _ _ _ _ c.in_ok-extend_from_slice.ensures.items
    (c.in_ok-push.ensures.items ∙ ap (λ d. c.extend_from_slice.new.self.items ++ d ∷ []) c.hex_digit.ensures)
    (c.in_ok-push-2.ensures.items ∙ ap (λ d. c.push.new.self.items ++ d ∷ []) c.hex_digit-2.ensures)
