use Rattle.std.proofs.Common.{◌∙◌, ap, ◌++◌, max, replicate}
use Rattle.explain_text.proofs.frames.marks_text.Goals as goal

pub returns : goal.returns
returns c =
    c.in_ok-push_str.ensures.bytes
    ∙ ap (λ s. s ++ c.args.label.now) (c.in_ok-marks.ensures ∙ ap (λ n. replicate n 94) (c.max-count.ensures ∙ ap (λ w. max w 1) c.width-wide.ensures.value))
