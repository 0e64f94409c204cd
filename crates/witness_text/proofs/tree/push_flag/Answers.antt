use Rattle.std.proofs.Common.{◌∙◌, ap, sym, ◌++◌, string_bytes}
use Rattle.witness_text.proofs.Adding.{three_added}
use Rattle.witness_text.proofs.Written.{flag_written}
use Rattle.witness_text.proofs.tree.push_flag.Goals as goal

pub returns : goal.returns
unfolding lib.Utf8.encode
returns c =
    three_added _ _ _ _ _ _ _ c.in_ok-push_str.ensures.bytes (c.in_ok-push_str-2.ensures.bytes ∙ ap (λ z. string_bytes c.push_str.new.self ++ z) c.flag_word.ensures)
    c.in_ok-push.ensures.bytes
    ∙ ap (λ z. string_bytes c.args.text.now ++ z) (sym (flag_written c.args.flag))
