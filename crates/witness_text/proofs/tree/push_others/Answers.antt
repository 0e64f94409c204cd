use Rattle.std.proofs.Common.{◌∙◌, ap, sym, ◌++◌, string_bytes}
use Rattle.witness_text.specs.Trees.{texts_view}
use Rattle.witness_text.proofs.Adding.{three_added}
use Rattle.witness_text.proofs.Written.{others_written}
use Rattle.witness_text.proofs.tree.push_others.Goals as goal

pub returns : goal.returns
unfolding lib.Utf8.encode
returns c =
    three_added _ _ _ _ _ _ _ c.in_ok-push_str.ensures.bytes c.in_ok-push_texts.ensures c.in_ok-push.ensures.bytes
    ∙ ap (λ z. string_bytes c.args.text.now ++ z) (sym (others_written (texts_view c.args.texts.now)))
