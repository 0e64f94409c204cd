use Rattle.std.proofs.Common.{◌∙◌, ap, sym, ◌++◌, map, string_bytes}
use Rattle.serde_json.specs.Written.{compact_text}
use Rattle.witness_text.proofs.Adding.{five_added}
use Rattle.verdict_json.specs.OutcomeTrees.{held_view, asked_view}
use Rattle.verdict_json.specs.Outcomes.{bindings_data}
use Rattle.verdict_json.proofs.OutcomeLines.{asked_written}
use Rattle.verdict_json.proofs.outcome.push_asked.Goals as goal

pub returns : goal.returns
unfolding lib.Utf8.encode
returns c =
    five_added _ _ _ _ _ _ _ _ _ _ _ c.in_ok-push_str.ensures.bytes c.in_ok-push_arm.ensures
    c.in_ok-push_str-2.ensures.bytes
    (c.in_ok-push_bindings.ensures
    ∙ ap (λ hs. string_bytes c.push_str-2.new.self ++ compact_text (bindings_data (map held_view hs)))
    c.deref.ensures.value)
    c.in_ok-push.ensures.bytes
    ∙ ap (λ z. string_bytes c.args.text.now ++ z) (sym (asked_written (asked_view c.args.asked.now)))
