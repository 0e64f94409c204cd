use Rattle.std.proofs.Common.{◌∙◌, ap, sym, ◌++◌, string_bytes}
use Rattle.witness_text.specs.Reported.{char_data}
use Rattle.witness_text.proofs.Adding.{five_added}
use Rattle.witness_text.proofs.Written.{range_written}
use Rattle.witness_text.proofs.tree.push_char_range.Goals as goal

pub returns : goal.returns
unfolding lib.Utf8.encode
returns c =
    five_added _ _ _ _ _ _ _ _ _ _ _ c.in_ok-push_str.ensures.bytes c.in_ok-push_char_end.ensures c.in_ok-push.ensures.bytes c.in_ok-push_char_end-2.ensures
    c.in_ok-push-2.ensures.bytes
    ∙ ap (λ z. string_bytes c.args.text.now ++ z) (sym (range_written (char_data c.args.low) (char_data c.args.high)))
