use Rattle.std.proofs.Common.{rules, ◌≡◌, ◌∙◌, ap, sym, List, ℕ, ◌++◌, ◌∷◌, [], string_bytes}
use Rattle.witness_text.proofs.Adding.{three_added}
use Rattle.witness_text.proofs.PlainTexts.{plain_text}
use Rattle.witness_text.proofs.quoting.push_plain.Goals as goal

pub returns : goal.returns
returns c =
    let first : string_bytes c.push.new.self ≡ string_bytes c.args.text.now ++ 34 ∷ [] = search rules in
    let last : string_bytes c.push-2.new.self ≡ string_bytes c.push_str.new.self ++ 34 ∷ [] = search rules in
    three_added (string_bytes c.args.text.now) (string_bytes c.push.new.self) (string_bytes c.push_str.new.self) (string_bytes c.push-2.new.self) (34 ∷ []) c.args.shown.now (34 ∷ [])
    first c.in_ok-push_str.ensures.bytes last
    ∙ ap (λ (s : List ℕ). string_bytes c.args.text.now ++ (34 ∷ (s ++ 34 ∷ []))) (sym (plain_text c.args.shown.now c.requires))
