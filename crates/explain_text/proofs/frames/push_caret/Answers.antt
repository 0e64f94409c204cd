use Rattle.std.proofs.Common.{◌∙◌, ap, ◌++◌, string_bytes}
use Rattle.explain_text.specs.Frames.{caret_text}
use Rattle.explain_text.specs.Styles.{styled}
use Rattle.explain_text.specs.declared.styles.Style.TheVariants.{Frame}
use Rattle.explain_lines.proofs.Adding.{five_added}
use Rattle.explain_text.proofs.frames.push_caret.Goals as goal

pub returns : goal.returns
unfolding caret_text
returns c =
    five_added _ _ _ _ _ _ _ _ _ _ _
    (c.in_ok-push_styled.ensures ∙ ap (λ s. string_bytes c.args.text.now ++ styled c.args.paint Frame s) c.as_str.ensures.value)
    c.in_ok-push_str.ensures.bytes
    (c.in_ok-push_str-2.ensures.bytes ∙ ap (λ s. string_bytes c.push_str.new.self ++ s) c.as_str-2.ensures.value)
    (c.in_ok-push_styled-2.ensures ∙ ap (λ s. string_bytes c.push_str-2.new.self ++ styled c.args.paint c.args.style s) c.as_str-3.ensures.value)
    c.in_ok-push_str-3.ensures.bytes
