use Rattle.std.proofs.Common.{◌∙◌, ap, sym, ◌++◌, map, string_bytes}
use Rattle.witness_text.proofs.Adding.{five_added}
use Rattle.verdict_json.proofs.ArmLines.{arms_written}
use Rattle.verdict_json.proofs.report.push_arms.Goals as goal

pub returns : goal.returns
unfolding lib.Utf8.encode
returns c =
    five_added _ _ _ _ _ _ _ _ _ _ _ c.in_ok-push_str.ensures.bytes c.in_ok-push_texts.ensures
    c.in_ok-push_str-2.ensures.bytes c.in_ok-push_quoted.ensures c.in_ok-push.ensures.bytes
    ∙ ap (λ z. string_bytes c.args.text.now ++ z) (sym (arms_written c.args.name.now (map string_bytes c.args.arms.now)))
