use Rattle.std.proofs.Common.{◌≡◌, ◌∙◌, ap, sym, ◌++◌, map, string_bytes, rules}
use Rattle.serde_json.specs.Written.{compact_text}
use Rattle.tree_eval.specs.Nodes.{plain_bind}
use Rattle.witness_text.proofs.Adding.{seven_added}
use Rattle.tree_text.specs.Reported.{count_data}
use Rattle.tree_text.proofs.Written.{ask_written}
use Rattle.tree_text.proofs.node.push_ask.Goals as goal

pub returns : goal.returns
unfolding lib.Utf8.encode
returns c =
    let arm : c.from.result ≡ c.args.arm = search rules in
    seven_added _ _ _ _ _ _ _ _ _ _ _ _ _ _ _ c.in_ok-push_str.ensures.bytes
    (c.in_ok-push_count.ensures ∙ ap (λ n. string_bytes c.push_str.new.self ++ compact_text (count_data n)) arm)
    c.in_ok-push_str-2.ensures.bytes c.in_ok-push_binds.ensures c.in_ok-push.ensures.bytes c.in_ok-push_count-2.ensures c.in_ok-push-2.ensures.bytes
    ∙ ap (λ z. string_bytes c.args.text.now ++ z) (sym (ask_written c.args.arm (map plain_bind c.args.binds.now) c.args.no))
