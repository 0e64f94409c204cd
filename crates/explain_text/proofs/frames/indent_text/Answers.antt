use Rattle.std.proofs.Common.{◌∙◌, ap, replicate}
use Rattle.explain_text.proofs.frames.indent_text.Goals as goal

pub returns : goal.returns
returns c = c.in_ok-space.ensures ∙ ap (λ n. replicate n 32) c.width-indent.ensures.value
