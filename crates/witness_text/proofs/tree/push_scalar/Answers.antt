use Rattle.std.proofs.Common.{◌≡◌, ◌∙◌, ap, sym, ◌++◌, string_bytes, rules}
use Rattle.std.specs.Prelude.{decimal}
use Rattle.witness_text.proofs.Adding.{three_added}
use Rattle.witness_text.proofs.Digits.{decimal_quoted}
use Rattle.witness_text.proofs.tree.push_scalar.Goals as goal

pub returns : goal.returns
unfolding lib.Utf8.encode
returns c =
    let same : c.from-2.result ≡ c.args.c = search rules in
    three_added _ _ _ _ _ _ _ c.in_ok-push.ensures.bytes (c.in_ok-push_size.ensures ∙ ap (λ n. string_bytes c.push.new.self ++ decimal n) same) c.in_ok-push-2.ensures.bytes
    ∙ ap (λ z. string_bytes c.args.text.now ++ z) (sym (decimal_quoted c.args.c))
