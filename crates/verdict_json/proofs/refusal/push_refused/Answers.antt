use Rattle.std.proofs.Common.{◌≡◌, ◌∙◌, ap, sym, ◌++◌, string_bytes, rules}
use Rattle.witness_text.proofs.Adding.{five_added}
use Rattle.verdict_json.specs.Refused.{name_or_empty}
use Rattle.verdict_json.specs.Rules.{name_of}
use Rattle.verdict_json.proofs.EntryLines.{refused_written}
use Rattle.verdict_json.proofs.refusal.push_refused.Goals as goal

pub returns : goal.returns
unfolding lib.Utf8.encode
returns c =
    let named : name_or_empty (name_of c.args.refusal.now.rule) ≡ c.unwrap-name.result.now = search rules in
    five_added _ _ _ _ _ _ _ _ _ _ _ c.in_ok-push_str.ensures.bytes c.in_ok-push_quoted.ensures
    c.in_ok-push_str-2.ensures.bytes c.in_ok-push_refusal.ensures c.in_ok-push.ensures.bytes
    ∙ ap (λ z. string_bytes c.args.text.now ++ z) (sym (refused_written c.args.function.now c.args.refusal.now _ named))
