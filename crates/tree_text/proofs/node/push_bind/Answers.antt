use Rattle.std.proofs.Common.{◌∙◌, ap, sym, ◌++◌, string_bytes}
use Rattle.serde_json.specs.Data.{string}
use Rattle.serde_json.specs.Written.{compact_text}
use Rattle.tree_eval.specs.Nodes.{plain_bind}
use Rattle.witness_text.proofs.Adding.{five_added}
use Rattle.tree_text.proofs.Written.{bind_written}
use Rattle.tree_text.proofs.node.push_bind.Goals as goal

pub returns : goal.returns
unfolding lib.Utf8.encode
returns c =
    five_added _ _ _ _ _ _ _ _ _ _ _ c.in_ok-push.ensures.bytes
    (c.in_ok-push_quoted.ensures ∙ ap (λ z. string_bytes c.push.new.self ++ compact_text (string z)) c.as_str.ensures.value)
    (c.in_ok-push_str.ensures.bytes ∙ ap (λ z. string_bytes c.push_quoted.new.text ++ z) c.mode_middle.ensures)
    c.in_ok-push_place.ensures c.in_ok-push-2.ensures.bytes
    ∙ ap (λ z. string_bytes c.args.text.now ++ z) (sym (bind_written (plain_bind c.args.bind.now)))
