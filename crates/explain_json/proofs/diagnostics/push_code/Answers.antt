use Rattle.std.proofs.Common.{◌∙◌, ap, sym, ◌++◌, string_bytes}
use Rattle.serde_json.specs.Data.{string}
use Rattle.serde_json.specs.Written.{compact_text}
use Rattle.explain_lines.proofs.Adding.{three_added}
use Rattle.explain_text.specs.Diagnostics.{diagnostic_view}
use Rattle.explain_json.proofs.Written.{code_written}
use Rattle.explain_json.proofs.diagnostics.push_code.Goals as goal

pub returns : goal.returns
returns c =
    three_added _ _ _ _ _ _ _ c.in_ok-push_str.ensures.bytes
    (c.in_ok-push_quoted.ensures ∙ ap (λ z. string_bytes c.push_str.new.self ++ compact_text (string z)) (c.as_str.ensures.value ∙ c.in_ok-code.ensures))
    c.in_ok-push_str-2.ensures.bytes
    ∙ ap (λ z. string_bytes c.args.text.now ++ z) (sym (code_written (diagnostic_view c.args.found.now)))
