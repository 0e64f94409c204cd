use Rattle.std.proofs.Common.{◌∙◌, ap, ◌++◌, string_bytes}
use Rattle.serde_json.specs.Data.{string}
use Rattle.serde_json.specs.Written.{compact_text}
use Rattle.witness_text.proofs.Adding.{three_added}
use Rattle.witness_text.proofs.tree.push_node_start.Goals as goal

pub returns : goal.returns
returns c =
    three_added _ _ _ _ _ _ _ c.in_ok-push_str.ensures.bytes
    (c.in_ok-push_quoted.ensures ∙ ap (λ z. string_bytes c.push_str.new.self ++ compact_text (string z)) (c.as_str.ensures.value ∙ c.in_ok-shown.ensures))
    c.in_ok-push_str-2.ensures.bytes
