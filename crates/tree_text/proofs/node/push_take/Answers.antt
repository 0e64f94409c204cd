use Rattle.std.proofs.Common.{◌≡◌, ◌∙◌, ap, sym, ◌++◌, map, string_bytes, rules}
use Rattle.serde_json.specs.Written.{compact_text}
use Rattle.tree_eval.specs.Nodes.{plain_bind}
use Rattle.witness_text.proofs.Adding.{five_added}
use Rattle.tree_text.specs.Reported.{count_data}
use Rattle.tree_text.proofs.Written.{take_written}
use Rattle.tree_text.proofs.node.push_take.Goals as goal

pub returns : goal.returns
unfolding lib.Utf8.encode
returns c =
    let arm : c.from.result ≡ c.args.arm = search rules in
    five_added _ _ _ _ _ _ _ _ _ _ _ c.in_ok-push_str.ensures.bytes
    (c.in_ok-push_count.ensures ∙ ap (λ n. string_bytes c.push_str.new.self ++ compact_text (count_data n)) arm)
    c.in_ok-push_str-2.ensures.bytes c.in_ok-push_binds.ensures c.in_ok-push.ensures.bytes
    ∙ ap (λ z. string_bytes c.args.text.now ++ z) (sym (take_written c.args.arm (map plain_bind c.args.binds.now)))
