use Rattle.std.proofs.Common.{◌∙◌, ap, ◌++◌, string_bytes}
use Rattle.explain_lines.proofs.Adding.{three_added}
use Rattle.explain_text.proofs.styles.push_painted.Goals as goal

pub returns : goal.returns
returns c =
    three_added _ _ _ _ _ _ _ (c.in_ok-push_str.ensures.bytes ∙ ap (λ s. string_bytes c.args.text.now ++ s) c.style_start.ensures) c.in_ok-push_str-2.ensures.bytes
    c.in_ok-push_str-3.ensures.bytes
