use Rattle.std.proofs.Common.{◌∙◌, ap, sym, ◌++◌, string_bytes}
use Rattle.range_split.specs.Numbers.{num_value}
use Rattle.witness_text.proofs.Adding.{seven_added}
use Rattle.witness_text.proofs.Written.{overlap_written}
use Rattle.witness_text.proofs.report.push_overlap.Goals as goal

pub returns : goal.returns
unfolding lib.Utf8.encode
returns c =
    seven_added _ _ _ _ _ _ _ _ _ _ _ _ _ _ _ c.in_ok-push_str.ensures.bytes c.in_ok-push_offset.ensures c.in_ok-push_str-2.ensures.bytes c.in_ok-push_number_text.ensures
    c.in_ok-push_str-3.ensures.bytes c.in_ok-push_offset-2.ensures c.in_ok-push.ensures.bytes
    ∙ ap (λ z. string_bytes c.args.text.now ++ z) (sym (overlap_written c.args.earlier c.args.later (num_value c.args.common.now)))
