use Rattle.std.proofs.Common.{◌≡◌, ◌∙◌, ap, sym, ◌++◌, codes, decimal, string_bytes, rules}
use Rattle.std.specs.Str.Lossy.{utf8_lossy}
use Rattle.serde_json.specs.Data.{string}
use Rattle.serde_json.specs.Written.{compact_text}
use Rattle.explain_lines.proofs.Adding.{five_added}
use Rattle.explain_json.proofs.Written.{line_written}
use Rattle.explain_json.proofs.lines.push_line.Goals as goal

pub returns : goal.returns
returns c =
    let lossy : string_bytes c.in_ok-shown.shown ≡ utf8_lossy c.args.line.now = search rules in
    five_added _ _ _ _ _ _ _ _ _ _ _
    (c.in_ok-push_counted.ensures ∙ ap (λ n. string_bytes c.args.text.now ++ (codes "{\"highlight_end\":" ++ decimal n)) c.column_in-end.ensures)
    (c.in_ok-push_counted-2.ensures ∙ ap (λ n. string_bytes c.push_counted.new.text ++ (codes ",\"highlight_start\":" ++ decimal n)) c.column_in-begin.ensures)
    c.in_ok-push_str.ensures.bytes
    (c.in_ok-push_quoted.ensures ∙ ap (λ s. string_bytes c.push_str.new.self ++ compact_text (string s)) (c.as_str.ensures.value ∙ lossy))
    c.in_ok-push_str-2.ensures.bytes
    ∙ ap (λ z. string_bytes c.args.text.now ++ z) (sym (line_written c.args.from c.args.to c.args.line.now))
