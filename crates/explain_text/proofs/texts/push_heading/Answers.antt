use Rattle.std.proofs.Common.{◌∙◌, ap, ◌++◌, string_bytes}
use Rattle.explain_text.specs.Texts.{heading_text, level_style}
use Rattle.explain_text.specs.Styles.{styled}
use Rattle.explain_text.specs.declared.styles.Style.{Style}
use Rattle.explain_lines.proofs.Adding.{four_added}
use Rattle.explain_text.proofs.texts.push_heading.Goals as goal

pub returns : goal.returns
unfolding heading_text
returns c =
    four_added _ _ _ _ _ _ _ _ _
    (c.in_ok-push_styled.ensures
    ∙ ap (λ (s : Style). string_bytes c.args.text.now ++ styled c.args.paint s c.level_text.result.now) c.level_style.ensures
    ∙ ap (λ x. string_bytes c.args.text.now ++ styled c.args.paint (level_style c.args.breaks) x) c.level_text.ensures)
    c.in_ok-push_str.ensures.bytes c.in_ok-push_styled-2.ensures c.in_ok-push_str-2.ensures.bytes
