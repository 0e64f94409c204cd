use Rattle.std.proofs.Common.{◌≡◌, ◌∙◌, ap, decimal, replicate, length, string_bytes, rules}
use Rattle.explain_text.proofs.frames.gutter.Goals as goal

pub returns : goal.returns
returns c =
    let digits : string_bytes c.in_ok-number.number ≡ decimal c.args.line = search rules in
    c.in_ok-pad.ensures ∙ ap (λ n. replicate n 32) (ap length (c.as_str.ensures.value ∙ digits))
