use Rattle.std.proofs.Common.{◌∙◌, ap, sym, ◌++◌, string_bytes}
use Rattle.std.specs.Prelude.{chars}
use Rattle.witness_text.proofs.Adding.{three_added}
use Rattle.witness_text.proofs.Written.{text_written}
use Rattle.witness_text.proofs.tree.push_one_text.Goals as goal

pub returns : goal.returns
unfolding lib.Utf8.encode
returns c =
    three_added _ _ _ _ _ _ _ c.in_ok-push_str.ensures.bytes c.in_ok-push_text.ensures c.in_ok-push.ensures.bytes
    ∙ ap (λ z. string_bytes c.args.text.now ++ z) (sym (text_written (chars c.args.shown.now)))
