use Rattle.std.proofs.Common.{◌∙◌, ap, sym, ◌++◌, string_bytes}
use Rattle.serde_json.specs.Data.{string}
use Rattle.serde_json.specs.Written.{compact_text}
use Rattle.witness_text.proofs.Adding.{seven_added}
use Rattle.verdict_json.specs.OutcomeTrees.{held_view}
use Rattle.verdict_json.proofs.OutcomeLines.{held_written}
use Rattle.verdict_json.proofs.outcome.push_held.Goals as goal

pub returns : goal.returns
unfolding lib.Utf8.encode
returns c =
    seven_added _ _ _ _ _ _ _ _ _ _ _ _ _ _ _ c.in_ok-push_str.ensures.bytes
    (c.in_ok-push_str-2.ensures.bytes ∙ ap (λ z. string_bytes c.push_str.new.self ++ z) c.mode_text.ensures)
    c.in_ok-push_str-3.ensures.bytes
    (c.in_ok-push_quoted.ensures
    ∙ ap (λ z. string_bytes c.push_str-3.new.self ++ compact_text (string z)) c.as_str.ensures.value)
    c.in_ok-push_str-4.ensures.bytes
    (c.in_ok-push_quoted-2.ensures
    ∙ ap (λ z. string_bytes c.push_str-4.new.self ++ compact_text (string z)) c.as_str-2.ensures.value)
    c.in_ok-push.ensures.bytes
    ∙ ap (λ z. string_bytes c.args.text.now ++ z) (sym (held_written (held_view c.args.held.now)))
