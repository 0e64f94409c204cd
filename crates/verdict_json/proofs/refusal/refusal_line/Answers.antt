use Rattle.std.proofs.Common.{◌≡◌, ◌∙◌, ap, sym, ◌++◌, codes, string_bytes, rules}
use Rattle.serde_json.specs.Written.{compact_text}
use Rattle.verdict_json.specs.Refused.{name_or_empty, refusal_data}
use Rattle.verdict_json.specs.Rules.{name_of}
use Rattle.verdict_json.proofs.EntryLines.{alone_written}
use Rattle.verdict_json.proofs.refusal.refusal_line.Goals as goal

pub returns : goal.returns
returns c =
    let name = c.unwrap-name.result.now in
    let named : name_or_empty (name_of c.args.refusal.now.rule) ≡ name = search rules in
    let begun : string_bytes c.in_ok-text.text ≡ codes "{\"refused\":" = search rules in
    c.in_ok-push_str.ensures.bytes ∙ ap (λ z. z ++ codes "}\n")
    (c.in_ok-push_refusal.ensures ∙ ap (λ z. z ++ compact_text (refusal_data c.args.refusal.now name)) begun)
    ∙ sym (alone_written c.args.refusal.now name named)
