use Rattle.std.proofs.Common.{◌∙◌, ap, sym, ◌++◌, string_bytes}
use Rattle.range_split.specs.Ends.{plain_end}
use Rattle.serde_json.specs.Written.{compact_text}
use Rattle.witness_text.specs.Reported.{end_data, range_data}
use Rattle.witness_text.proofs.Adding.{five_added}
use Rattle.witness_text.proofs.Written.{range_written}
use Rattle.witness_text.proofs.tree.push_range.Goals as goal

pub returns : goal.returns
unfolding lib.Utf8.encode
returns c =
    five_added _ _ _ _ _ _ _ _ _ _ _ c.in_ok-push_str.ensures.bytes c.in_ok-push_end.ensures c.in_ok-push.ensures.bytes c.in_ok-push_end-2.ensures
    c.in_ok-push-2.ensures.bytes
    ∙ ap (λ z. string_bytes c.args.text.now ++ z) (sym (range_written (end_data (plain_end c.low.result)) (end_data (plain_end c.high.result))))
    ∙ λ i. string_bytes c.args.text.now ++ compact_text (range_data (end_data (c.low.ensures i)) (end_data (c.high.ensures i)))
