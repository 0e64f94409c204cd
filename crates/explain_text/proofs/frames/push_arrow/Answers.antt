use Rattle.std.proofs.Common.{◌∙◌, ap, ◌++◌, string_bytes}
use Rattle.explain_text.specs.Frames.{arrow_text}
use Rattle.explain_text.specs.Styles.{styled}
use Rattle.explain_text.specs.declared.styles.Style.TheVariants.{Frame}
use Rattle.explain_lines.proofs.Adding.{six_added}
use Rattle.explain_text.proofs.frames.push_arrow.Goals as goal

pub returns : goal.returns
unfolding arrow_text
returns c =
    six_added _ _ _ _ _ _ _ _ _ _ _ _ _
    (c.in_ok-push_str.ensures.bytes ∙ ap (λ s. string_bytes c.args.text.now ++ s) c.as_str.ensures.value)
    c.in_ok-push_styled.ensures c.in_ok-push_place.ensures c.in_ok-push_str-2.ensures.bytes
    (c.in_ok-push_styled-2.ensures ∙ ap (λ s. string_bytes c.push_str-2.new.self ++ styled c.args.source.now.paint Frame s) c.as_str-2.ensures.value)
    c.in_ok-push_str-3.ensures.bytes
