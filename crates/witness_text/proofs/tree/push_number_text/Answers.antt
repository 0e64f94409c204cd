use Rattle.std.proofs.Common.{◌∙◌, ap, sym, ◌++◌, string_bytes}
use Rattle.range_split.specs.Numbers.{num_value}
use Rattle.witness_text.proofs.Adding.{three_added}
use Rattle.witness_text.proofs.Digits.{signed_quoted}
use Rattle.witness_text.proofs.tree.push_number_text.Goals as goal

pub returns : goal.returns
unfolding lib.Utf8.encode
returns c =
    three_added _ _ _ _ _ _ _ c.in_ok-push.ensures.bytes c.in_ok-push_number.ensures c.in_ok-push-2.ensures.bytes
    ∙ ap (λ z. string_bytes c.args.text.now ++ z) (sym (signed_quoted (num_value c.args.number.now)))
