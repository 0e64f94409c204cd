use Rattle.std.proofs.Common.{◌≡◌, ◌∙◌, ap, sym, ◌++◌, string_bytes, rules}
use Rattle.std.specs.Prelude.{decimal}
use Rattle.witness_text.proofs.Adding.{five_added, seven_added}
use Rattle.verdict_json.proofs.EntryLines.{refusal_written}
use Rattle.verdict_json.proofs.refusal.push_refusal.Goals as goal

pub returns : goal.returns
unfolding lib.Utf8.encode
returns c =
    let rule : c.from.result ≡ c.args.refusal.now.rule = search rules in
    five_added _ _ _ _ _ _ _ _ _ _ _ c.in_ok-push_str.ensures.bytes c.in_ok-push_place.ensures
    c.in_ok-push_str-2.ensures.bytes c.in_ok-push_place-2.ensures
    (seven_added _ _ _ _ _ _ _ _ _ _ _ _ _ _ _ c.in_ok-push_str-3.ensures.bytes c.in_ok-push_place-3.ensures
    c.in_ok-push_str-4.ensures.bytes c.in_ok-push_quoted.ensures
    c.in_ok-push_str-5.ensures.bytes
    (c.in_ok-push_number.ensures ∙ ap (λ n. string_bytes c.push_str-5.new.self ++ decimal n) rule)
    c.in_ok-push.ensures.bytes)
    ∙ ap (λ z. string_bytes c.args.text.now ++ z) (sym (refusal_written c.args.refusal.now c.args.name.now))
