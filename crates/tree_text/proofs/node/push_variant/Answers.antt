use Rattle.std.proofs.Common.{◌∙◌, ap, sym, ◌++◌, string_bytes}
use Rattle.serde_json.specs.Data.{string}
use Rattle.serde_json.specs.Written.{compact_text}
use Rattle.witness_text.specs.Trees.{name_view}
use Rattle.witness_text.proofs.Adding.{three_added}
use Rattle.tree_text.proofs.Written.{variant_written}
use Rattle.tree_text.proofs.node.push_variant.Goals as goal

pub returns : goal.returns
unfolding lib.Utf8.encode
returns c =
    three_added _ _ _ _ _ _ _ c.in_ok-push_str.ensures.bytes
    (c.in_ok-push_quoted.ensures ∙ ap (λ z. string_bytes c.push_str.new.self ++ compact_text (string z)) (c.as_str.ensures.value ∙ c.in_ok-shown.ensures))
    c.in_ok-push.ensures.bytes
    ∙ ap (λ z. string_bytes c.args.text.now ++ z) (sym (variant_written (name_view c.args.name.now)))
